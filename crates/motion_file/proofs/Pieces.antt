-- Where a separator stands and how it cuts a text: `position_here`, `position-next`, `position-end` by place, `split-cut` and `split-whole` by the first
-- separator; how many pieces it makes: `pieces_counted`.
use Prim.Native.Nat.{ℕ, suc, ◌+◌, ◌≤◌, ◌<◌}
use native.Mathlib.Nat.{not-suc-le-zero, eq-or-lt_of_le}
use native.Mathlib.Omega.{arith}
use mathlib.Core.Path.{◌≡◌, refl, sym, ap}
use mathlib.Core.Bool.{Bool, true, false, cond}
use mathlib.Core.List.{List, [], ◌∷◌}
use mathlib.Core.Logic.{⊎_elim}
use lib.Dec.{eqb}
use lib.ListN.{length, take, drop, get_or, drop_of_length-le}
use lib.Seq.{drop-cons, take_all}
use borrow.Author.Tests.{eqb-true, eq-eqb, ne_eqb}
use Rattle.std.specs.List.{count_by}
use Rattle.std.proofs.lemmas.List.Sums.{sum_by-cons}
use Rattle.hexadecimal.specs.Digit.{position}
use Rattle.hexadecimal.proofs.Digits.{position-bound}
use Rattle.motion_file.specs.Text.{split, on_first}

pub position_here : (b : ℕ) (s : List ℕ) (i : ℕ) → i < length s → get_or s i 0 ≡ b → position b (drop i s) ≡ 0
unfolding position
position_here b s i h e = rw (drop-cons s i 0 h, e, eq-eqb b b refl)

pub position-next : (b : ℕ) (s : List ℕ) (i : ℕ) → i < length s → (get_or s i 0 ≡ b → ⊥) → position b (drop i s) ≡ suc (position b (drop (suc i) s))
unfolding position
position-next b s i h n = rw (drop-cons s i 0 h, ne_eqb b (get_or s i 0) (λ e. n (sym e)))

pub position-end : (b : ℕ) (s : List ℕ) (i : ℕ) → length s ≤ i → position b (drop i s) ≡ 0
unfolding position
position-end b s i h = rw (drop_of_length-le s h)

-- the byte itself stands at its position
pub position-drop : (b : ℕ) (s : List ℕ) → position b s < length s → drop (position b s) s ≡ b ∷ drop (suc (position b s)) s
unfolding position
position-drop b [] h = absurd (not-suc-le-zero h)
position-drop b (c ∷ s) h = go (eqb b c) refl (position-drop b s) h
  where
    go : (t : Bool) → eqb b c ≡ t → (position b s < length s → drop (position b s) s ≡ b ∷ drop (suc (position b s)) s)
        → cond t 0 (suc (position b s)) < suc (length s)
        → drop (cond t 0 (suc (position b s))) (c ∷ s) ≡ b ∷ drop (cond t 0 (suc (position b s))) s
    go true e ih h = ap (λ (a : ℕ). a ∷ s) (sym (eqb-true b c e))
    go false e ih h = ih (omega arith)

-- a text with a separator in it: the piece before the first one, and the pieces of what stands behind it
pub split-cut : (b : ℕ) (s : List ℕ) → position b s < length s → split b s ≡ take (position b s) s ∷ split b (drop (suc (position b s)) s)
unfolding position split
split-cut b [] h = absurd (not-suc-le-zero h)
split-cut b (c ∷ s) h = go (eqb b c) (split-cut b s) h
  where
    go : (t : Bool) → (position b s < length s → split b s ≡ take (position b s) s ∷ split b (drop (suc (position b s)) s))
        → cond t 0 (suc (position b s)) < suc (length s)
        → cond t ([] ∷ split b s) (on_first c (split b s))
        ≡ take (cond t 0 (suc (position b s))) (c ∷ s) ∷ split b (drop (cond t 0 (suc (position b s))) s)
    go true ih h = refl
    go false ih h = rw (ih (omega arith))

-- a text with none in it is one piece
pub split-whole : (b : ℕ) (s : List ℕ) → length s ≤ position b s → split b s ≡ s ∷ []
unfolding position split
split-whole b [] h = refl
split-whole b (c ∷ s) h = go (eqb b c) (split-whole b s) h
  where
    go : (t : Bool) → (length s ≤ position b s → split b s ≡ s ∷ []) → suc (length s) ≤ cond t 0 (suc (position b s))
        → cond t ([] ∷ split b s) (on_first c (split b s)) ≡ (c ∷ s) ∷ []
    go true ih h = absurd (not-suc-le-zero h)
    go false ih h = rw (ih (omega arith))

-- there is always a first piece
pub split-first : (b : ℕ) (s : List ℕ) → (ps : List (List ℕ)) × (split b s ≡ take (position b s) s ∷ ps)
split-first b s = ⊎_elim whole cut (eq-or-lt_of_le (position-bound b s))
  where
    whole : position b s ≡ length s → (ps : List (List ℕ)) × (split b s ≡ take (position b s) s ∷ ps)
    whole e = ([], rw (take_all (position b s) s (omega arith)) (split-whole b s (omega arith)))

    cut : position b s < length s → (ps : List (List ℕ)) × (split b s ≡ take (position b s) s ∷ ps)
    cut l = (split b (drop (suc (position b s)) s), split-cut b s l)

-- one piece more than there are separators
pub pieces_counted : (b : ℕ) (s : List ℕ) → count_by (eqb b) s + 1 ≡ length (split b s)
unfolding split
pieces_counted b [] = refl
pieces_counted b (c ∷ s) = rw (sum_by-cons (λ c. cond (eqb b c) 1 0) c s) (go (eqb b c) (split b s) (pieces_counted b s))
  where
    go : (t : Bool) (ps : List (List ℕ)) → count_by (eqb b) s + 1 ≡ length ps
        → cond t 1 0 + count_by (eqb b) s + 1 ≡ length (cond t ([] ∷ ps) (on_first c ps))
    go true ps h = omega (arith, h)
    go false [] h = omega (arith, h)
    go false (p ∷ ps) h = omega (arith, h)
