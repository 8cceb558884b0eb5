-- A word looked for among the words of a list: `from`, the place among the words from a byte on, and `from_step`, one word; `equal-same`, the comparison.
use Prim.Native.Nat.{ℕ, suc, ◌+◌, ◌-◌, ◌≤◌, ◌<◌}
use native.Mathlib.Nat.{eq-or-lt_of_le}
use native.Mathlib.Omega.{arith}
use mathlib.Core.Path.{◌≡◌, refl, sym, ◌∙◌, ap}
use mathlib.Core.Bool.{Bool, true, false, cond, and-eq-true_iff, false≢true}
use mathlib.Core.List.{List, [], ◌∷◌}
use mathlib.Core.Logic.{⊎_elim}
use lib.Dec.{eqb, leb}
use lib.ListN.{length, take, drop, length-drop}
use lib.Seq.{take_all, drop-drop}
use borrow.Author.Tests.{le-leb, lt-leb, eq-eqb, eqb-true}
use Rattle.hexadecimal.specs.Digit.{position}
use Rattle.hexadecimal.proofs.Digits.{position-bound}
use Rattle.motion_text.specs.motion_file.Text.{space, split, equal}
use Rattle.motion_text.proofs.motion_file.Pieces.{split-cut, split-whole}
use Rattle.question_lines.specs.Words.{position_in, Words-position}

equal-refl : (a : List ℕ) → equal a a ≡ true
unfolding equal
equal-refl [] = refl
equal-refl (x ∷ a) = rw (eq-eqb x x refl) (equal-refl a)

equal-true : (a b : List ℕ) → equal a b ≡ true → a ≡ b
unfolding equal
equal-true [] [] e = refl
equal-true [] (y ∷ b) e = absurd (false≢true e)
equal-true (x ∷ a) [] e = absurd (false≢true e)
equal-true (x ∷ a) (y ∷ b) e =
    let both = (and-eq-true_iff (eqb x y) (equal a b)).0 e in
    rw (eqb-true x y both.0, equal-true a b both.1)

-- a comparison of two texts
pub equal-same : (a b : List ℕ) (r : Bool) → (r ≡ true → a ≡ b) × (a ≡ b → r ≡ true) → r ≡ equal a b
equal-same a b true h = rw (h.0 refl) (sym (equal-refl b))
equal-same a b false h = go (equal a b) refl
  where
    go : (t : Bool) → equal a b ≡ t → false ≡ t
    go true e = absurd (false≢true (h.1 (equal-true a b e)))
    go false e = refl

module _ (word list : List ℕ) where
  -- the place among the words from a byte on; none are left behind the last
  unfoldable pub from : ℕ → ℕ
  from at = cond (leb at (length list)) (position_in word (split space (drop at list))) 0

  pub from_start : 0 + from 0 ≡ Words-position word list
  unfolding from
  from_start = rw (le-leb 0 (length list) (omega arith)) (omega arith)

  pub from_end : (at : ℕ) → length list < at → from at ≡ 0
  unfolding from
  from_end at h = rw (lt-leb at (length list) h)

  pub from_step : (at p : ℕ) → at ≤ length list → p ≡ position space (drop at list)
      → from at ≡ cond (equal (take p (drop at list)) word) 0 (suc (from (at + p + 1)))
  unfolding from position_in
  from_step at p h e = rw (le-leb at (length list) h) (⊎_elim whole cut (eq-or-lt_of_le (position-bound space (drop at list))))
    where
      whole : position space (drop at list) ≡ length (drop at list)
          → position_in word (split space (drop at list))
          ≡ cond (equal (take p (drop at list)) word) 0 (suc (cond (leb (at + p + 1) (length list)) (position_in word (split space (drop (at + p + 1) list))) 0))
      whole w =
          let past : length list < at + p + 1 = omega (arith, e, w, length-drop at list) in
          rw (split-whole space (drop at list) (omega (arith, w)), lt-leb (at + p + 1) (length list) past, take_all p (drop at list) (omega (arith, e, w)))

      cut : position space (drop at list) < length (drop at list)
          → position_in word (split space (drop at list))
          ≡ cond (equal (take p (drop at list)) word) 0 (suc (cond (leb (at + p + 1) (length list)) (position_in word (split space (drop (at + p + 1) list))) 0))
      cut l =
          let inside : at + p + 1 ≤ length list = omega (arith, e, l, length-drop at list) in
          let next : at + p + 1 ≡ at + suc p = omega arith in
          rw (split-cut space (drop at list) l, le-leb (at + p + 1) (length list) inside, next, ← e, drop-drop (suc p) at list)

  -- one word, as `find` gives its end and `same` compares it
  pub from-here : (at end : ℕ) (r : Bool) → at ≤ length list → end ≡ at + position space (drop at list) → r ≡ equal (take (end - at) (drop at list)) word
      → from at ≡ cond r 0 (suc (from (end + 1)))
  from-here at end r h e same =
      let p : ℕ = position space (drop at list) in
      let size : end - at ≡ p = omega (arith, e) in
      let told : equal (take p (drop at list)) word ≡ r = ap (λ (n : ℕ). equal (take n (drop at list)) word) (sym size) ∙ sym same in
      from_step at p h refl
      ∙ ap (λ (t : Bool). cond t 0 (suc (from (at + p + 1)))) told
      ∙ ap (λ (n : ℕ). cond r 0 (suc (from (n + 1)))) (sym e)
