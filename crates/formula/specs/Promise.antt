-- The words for the two promises of a formula, from stage to stage. Definitions only.
use Rattle.std.specs.Prelude.{◌≡◌, List, [], ◌∷◌, Float}
use Rattle.interval.specs.Contains.{Encloses, Refines}
use Rattle.formula.specs.Enclose.{Enclosure}

-- R holds between the elements of two lists of one length, in order.
abbrev pub Pairwise : {A B : Type 0} → (A → B → Type 0) → List A → List B → Type 0
Pairwise R [] [] = Unit {0}
Pairwise R [] (y ∷ ys) = ⊥
Pairwise R (x ∷ xs) [] = ⊥
Pairwise R (x ∷ xs) (y ∷ ys) = R x y × Pairwise R xs ys

-- Where nothing was refused, each interval is finite and contains its number.
abbrev pub EnclosesAll : Enclosure → List Float → Type 0
EnclosesAll c ρ = c.refusal ≡ 0 → Pairwise Encloses c.intervals ρ

-- Where the wider one was not refused, neither was the narrower one, and each interval lies in its counterpart.
abbrev pub NarrowerAll : Enclosure → Enclosure → Type 0
NarrowerAll c c' = c'.refusal ≡ 0 → (c.refusal ≡ 0) × Pairwise Refines c.intervals c'.intervals
