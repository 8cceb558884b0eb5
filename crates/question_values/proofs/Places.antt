-- Floats copied: `left-few` and `left-enough`; things of so many floats put one by one: `groups-turn` and `groups-all`.
use Prim.Native.Nat.{ℕ, zero, suc, ◌+◌, ◌*◌, ◌≤◌, ◌<◌}
use native.Mathlib.Nat.{zero-add, add-zero, not-suc-le-zero, le_refl}
use native.Mathlib.Numerals.{add-one}
use native.Mathlib.Omega.{arith}
use mathlib.Core.Path.{◌≡◌, refl, sym, ◌∙◌, ap}
use mathlib.Core.List.{List, [], ◌++◌, append-nil}
use lib.Ieee.{Float}
use lib.ListN.{length, take, drop, get_or, set, drop_of_length-le}
use lib.Seq.{paste, paste-suc, take-length}
use borrow.Author.Tests.{le-leb, lt-leb}
use Rattle.question_values.specs.Places.{values_left, values_at, groups_from}

-- a list that is replaced whole
module _ {A : Type 0} (d s : List A) where
  pub paste_all : paste d 0 s (length d) ≡ take (length d) s
  paste_all =
      ap (λ (k : ℕ). take (length d) s ++ drop k d) (zero-add (length d))
      ∙ ap (λ (r : List A). take (length d) s ++ r) (drop_of_length-le d (le_refl (length d)))
      ∙ append-nil (take (length d) s)

  -- one element more
  pub paste-next : (o : List A) (k : ℕ) (z v : A) → k < length d → k < length s → o ≡ paste d 0 s k → v ≡ get_or s k z → set o k v ≡ paste d 0 s (k + 1)
  paste-next o k z v h room e g =
      ap (λ (l : List A). set l k v) e
      ∙ ap (set (paste d 0 s k) k) g
      ∙ ap (λ (j : ℕ). set (paste d 0 s k) j (get_or s k z)) (sym (zero-add k))
      ∙ paste-suc d 0 s k z (omega arith) room
      ∙ ap (paste d 0 s) (sym (add-one k))

module _ (values : List Float) (at : ℕ) (old : List Float) where
  pub left-few : length values < at + length old → old ≡ values_left values at old
  unfolding values_left
  left-few h = rw (lt-leb (at + length old) (length values) h)

  pub left-enough : at + length old ≤ length values → take (length old) (drop at values) ≡ values_left values at old
  unfolding values_left
  left-enough h = rw (le-leb (at + length old) (length values) h)

module _ (size : ℕ) (values : List Float) where
  groups-at : (n k j : ℕ) → j < n → get_or (groups_from size n k values) j [] ≡ values_at size values (size * (k + j))
  unfolding groups_from
  groups-at zero k j h = absurd (not-suc-le-zero h)
  groups-at (suc n) k zero h = ap (λ (m : ℕ). values_at size values (size * m)) (sym (add-zero k))
  groups-at (suc n) k (suc j) h =
      let e : suc k + j ≡ k + suc j = omega arith in
      groups-at n (suc k) j (omega arith) ∙ ap (λ (m : ℕ). values_at size values (size * m)) e

  length-groups : (n k : ℕ) → length (groups_from size n k values) ≡ n
  unfolding groups_from
  length-groups zero k = refl
  length-groups (suc n) k = ap suc (length-groups n (suc k))

  pub groups-turn : (d o : List (List Float)) (k : ℕ) (v : List Float) → k < length d
      → o ≡ paste d 0 (groups_from size (length d) 0 values) k → v ≡ values_at size values (size * k)
      → set o k v ≡ paste d 0 (groups_from size (length d) 0 values) (k + 1)
  groups-turn d o k v h e g =
      let here : get_or (groups_from size (length d) 0 values) k [] ≡ values_at size values (size * k) =
      groups-at (length d) 0 k h ∙ ap (λ (m : ℕ). values_at size values (size * m)) (zero-add k) in
      paste-next d (groups_from size (length d) 0 values) o k [] v h (rw (length-groups (length d) 0) h) e (g ∙ sym here)

  pub groups-all : (d o : List (List Float)) (k : ℕ) → k ≡ length d → o ≡ paste d 0 (groups_from size (length d) 0 values) k
      → o ≡ groups_from size (length d) 0 values
  groups-all d o k l e =
      let g = groups_from size (length d) 0 values in
      let whole : take (length d) g ≡ g = ap (λ (n : ℕ). take n g) (sym (length-groups (length d) 0)) ∙ take-length g in
      e ∙ ap (paste d 0 g) l ∙ paste_all d g ∙ whole
