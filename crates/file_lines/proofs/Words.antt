-- The words of a text by its first space: `words-cut`, `words-whole`, `words-first`; and where that space stands behind eight digits: `digits-position`.
-- Rests on `Pieces.antt` and `Spaces.antt`.
use Prim.Native.Nat.{ℕ, suc, ◌+◌, ◌≤◌, ◌<◌}
use native.Mathlib.Nat.{eq-or-lt_of_le}
use native.Mathlib.Omega.{arith}
use mathlib.Core.Path.{◌≡◌, refl, sym, ◌∙◌, ap}
use mathlib.Core.Bool.{Bool, true, false, cond, and-eq-true_iff, false≢true}
use mathlib.Core.List.{List, [], ◌∷◌, ◌++◌, append-nil}
use mathlib.Core.Logic.{⊎_elim}
use lib.Dec.{eqb, ltb}
use lib.ListN.{length, take, drop, drop_of_length-le}
use lib.Seq.{take_all}
use borrow.Author.Tests.{eqb-false, ne_eqb}
use Rattle.hexadecimal.specs.Digit.{position, digit_value}
use Rattle.hexadecimal.specs.Word.{digits_only}
use Rattle.hexadecimal.proofs.Digits.{position-bound}
use Rattle.motion_file.specs.Text.{space, split, single_spaced}
use Rattle.motion_file.specs.Layout.{words}
use Rattle.motion_file.proofs.Pieces.{position-drop, split-whole}
use Rattle.file_lines.proofs.Spaces.{single_spaced-first, single_spaced-other}

single_spaced-nil : single_spaced [] ≡ []
unfolding single_spaced
single_spaced-nil = refl

-- what stands before the first space stays
single_spaced-before : (t : List ℕ) → single_spaced t ≡ take (position space t) t ++ single_spaced (drop (position space t) t)
unfolding position
single_spaced-before [] = refl
single_spaced-before (b ∷ t) = go (eqb space b) refl (single_spaced-before t)
  where
    go : (p : Bool) → eqb space b ≡ p → single_spaced t ≡ take (position space t) t ++ single_spaced (drop (position space t) t)
        → single_spaced (b ∷ t)
        ≡ take (cond p 0 (suc (position space t))) (b ∷ t) ++ single_spaced (drop (cond p 0 (suc (position space t))) (b ∷ t))
    go true e ih = refl
    go false e ih = single_spaced-other b t (λ i. eqb-false space b e (sym i)) ∙ ap (λ (u : List ℕ). b ∷ u) ih

split-before : (t v : List ℕ) → split space (take (position space t) t ++ (space ∷ v)) ≡ take (position space t) t ∷ split space v
unfolding position split
split-before [] v = refl
split-before (b ∷ t) v = go (eqb space b) refl (split-before t v)
  where
    go : (p : Bool) → eqb space b ≡ p → split space (take (position space t) t ++ (space ∷ v)) ≡ take (position space t) t ∷ split space v
        → split space (take (cond p 0 (suc (position space t))) (b ∷ t) ++ (space ∷ v))
        ≡ take (cond p 0 (suc (position space t))) (b ∷ t) ∷ split space v
    go true e ih = refl
    go false e ih = rw (e, ih)

-- a text whose first space stands at q
pub words-cut : (t v : List ℕ) (q : ℕ) → position space t ≡ q → single_spaced (drop q t) ≡ space ∷ v → words t ≡ take q t ∷ split space v
words-cut t v q e f =
    rw (single_spaced-before t, e, f, ← e) (split-before t v)

-- a text without a space
pub words-whole : (t : List ℕ) → length t ≤ position space t → words t ≡ t ∷ []
words-whole t h =
    rw (single_spaced-before t, take_all (position space t) t h, drop_of_length-le t h, single_spaced-nil, append-nil) (split-whole space t h)

-- the first word reaches to the first space
pub words-first : (t : List ℕ) → (ws : List (List ℕ)) × (words t ≡ take (position space t) t ∷ ws)
words-first t = ⊎_elim whole cut (eq-or-lt_of_le (position-bound space t))
  where
    whole : position space t ≡ length t → (ws : List (List ℕ)) × (words t ≡ take (position space t) t ∷ ws)
    whole e = ([], rw (take_all (position space t) t (omega arith)) (words-whole t (omega arith)))

    cut : position space t < length t → (ws : List (List ℕ)) × (words t ≡ take (position space t) t ∷ ws)
    cut l =
        let first = single_spaced-first space (drop (suc (position space t)) t) in
        (split space first.0, words-cut t first.0 (position space t) refl (rw (position-drop space t l) first.1))

digit-other : (b : ℕ) → ltb (digit_value b) 16 ≡ true → eqb space b ≡ false
unfolding digit_value position
digit-other b h = ne_eqb space b (λ e. false≢true (rw (← e) at h))

-- digits hold no space
pub digits-position : (w t : List ℕ) → digits_only w ≡ true → position space (w ++ t) ≡ length w + position space t
unfolding position digits_only
digits-position [] t h = omega arith
digits-position (b ∷ w) t h =
    let tests = (and-eq-true_iff (ltb (digit_value b) 16) (digits_only w)).0 h in
    rw (digit-other b tests.0, digits-position w t tests.1) (omega arith)
