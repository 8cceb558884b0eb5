-- A vector divided by its length, as one formula with two readings, and what the second promises of the first. Definitions only.
use Rattle.std.specs.Prelude.{◌≡◌, ℕ, Result, List, [], ◌∷◌, get_or, Float}
use Rattle.std.specs.Float.{nan}
use Rattle.interval.specs.declared.Interval.{Interval}
use Rattle.interval.specs.refusal.Outcome.{outcome}
use Rattle.interval.specs.Contains.{Encloses}
use Rattle.formula.specs.Program.{Expr, var, Program, ◌>>=◌, give, ◌⊕◌, ◌⊗◌, ◌⊘◌, sqrt}
use Rattle.formula.specs.Eval.{Program-eval}
use Rattle.formula.specs.Enclose.{unbound, Enclosure, enclosure, Program-enclose}
use Rattle.formula.specs.Promise.{Pairwise}
use Rattle.formula_example.specs.declared.Vector2.{Vector2}
use Rattle.formula_example.specs.declared.IntervalVector2.{IntervalVector2}

-- With its refusal number, 0 for none.
pub record JudgedVector2 : Type 0 where
  pub value : IntervalVector2
  pub refusal : ℕ

-- As code gives it: after a refusal the value means nothing.
abbrev pub JudgedVector2-outcome : JudgedVector2 → Result IntervalVector2 ℕ
JudgedVector2-outcome j = outcome j.value j.refusal

-- The formula.
abbrev pub normalize : Expr → Expr → Program
normalize x y = do
  n ← sqrt (x ⊗ x ⊕ y ⊗ y)
  give (x ⊘ n ∷ y ⊘ n ∷ [])

-- ---- structs as lists of numbers, and back
abbrev pub Vector2-list : Vector2 → List Float
Vector2-list v = v.x ∷ v.y ∷ []

abbrev pub Vector2-of : List Float → Vector2
Vector2-of l = record { x = get_or l 0 nan; y = get_or l 1 nan }

abbrev pub IntervalVector2-list : IntervalVector2 → List Interval
IntervalVector2-list v = v.x ∷ v.y ∷ []

abbrev pub JudgedVector2-of : Enclosure → JudgedVector2
JudgedVector2-of c = record { value = record { x = get_or c.intervals 0 unbound; y = get_or c.intervals 1 unbound }; refusal = c.refusal }

-- ---- its two readings
abbrev pub Vector2-normalize : Vector2 → Vector2
Vector2-normalize v = Vector2-of (Program-eval (Vector2-list v) (normalize (var 0) (var 1)))

abbrev pub Vector2-normalize_enclosure : ℕ → IntervalVector2 → JudgedVector2
Vector2-normalize_enclosure met v = JudgedVector2-of (Program-enclose (enclosure met (IntervalVector2-list v)) (normalize (var 0) (var 1)))

-- Where r is not refused, it encloses the normalized form of every vector that v encloses.
abbrev pub EnclosesNormalized : IntervalVector2 → JudgedVector2 → Type 0
EnclosesNormalized v r =
    (w : Vector2) → Pairwise Encloses (IntervalVector2-list v) (Vector2-list w)
    → r.refusal ≡ 0 → Pairwise Encloses (IntervalVector2-list r.value) (Vector2-list (Vector2-normalize w))
