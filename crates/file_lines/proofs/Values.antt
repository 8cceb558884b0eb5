-- A line of values from a place on, as the code reads it: `values-more` takes one value and the spaces behind it, `values-final` the last, and
-- `values-malformed`, `values-short`, `values-unspaced` refuse. Rests on `Words.antt`.
use Rattle.std.specs.Prelude.{Some, None}
use Prim.Native.Nat.{ℕ, suc, ◌+◌, ◌≤◌, ◌<◌}
use native.Mathlib.Nat.{eq-or-lt_of_le}
use native.Mathlib.Omega.{arith}
use mathlib.Core.Path.{◌≡◌, refl, sym, ◌∙◌, ap}
use mathlib.Core.Bool.{Bool, true, false, cond, ◌&&◌, and-eq-true_iff, and-false}
use mathlib.Core.List.{List, [], ◌∷◌, map}
use mathlib.Core.Logic.{⊎_elim}
use lib.Dec.{eqb, leb, eqb-zero-suc, eqb-suc-zero, eqb-suc-suc}
use lib.Ieee.{binary32, of_bits}
use lib.ListN.{length, take, drop, get_or, length-drop, take-append-drop}
use lib.Seq.{take_all, drop-cons, drop-drop, length-take-le}
use borrow.Author.Tests.{leb-true, le-leb, eqb-true, eqb-false, eq-eqb, ne_eqb}
use Rattle.hexadecimal.specs.Digit.{position}
use Rattle.hexadecimal.specs.Word.{digits_only, number, Word-read}
use Rattle.hexadecimal.proofs.Digits.{position-bound}
use Rattle.motion_file.specs.Text.{space, single_spaced}
use Rattle.motion_file.specs.Layout.{words, is_value, value_of, all_values, are_values}
use Rattle.motion_file.specs.means.Place.{NextByte}
use Rattle.motion_file.proofs.Pieces.{position_here, position-next, split-first}
use Rattle.file_lines.proofs.Spaces.{single_spaced-first}
use Rattle.file_lines.proofs.Words.{words-cut, words-whole, words-first, digits-position}

-- eight digits stand at a place and write a number
record Reads (line : List ℕ) (at n : ℕ) : Type 0 where
  inside : at + 8 ≤ length line
  only : digits_only (take 8 (drop at line)) ≡ true
  writes : number (take 8 (drop at line)) ≡ n

differ : (n : ℕ) → None ≡ Some n → ⊥
differ n p = let z : ◌≡◌ {A = ℕ} 0 1 = cc in omega arith

reads : (line : List ℕ) (at n : ℕ) → Word-read line at ≡ Some n → Reads line at n
unfolding Word-read
reads line at n e = go (leb (at + 8) (length line)) (digits_only (take 8 (drop at line))) refl refl e
  where
    go : (p q : Bool) → leb (at + 8) (length line) ≡ p → digits_only (take 8 (drop at line)) ≡ q
        → cond (p && q) (Some (number (take 8 (drop at line)))) None ≡ Some n → Reads line at n
    go true true f g h = record { inside = leb-true (at + 8) (length line) f; only = g; writes = cc }
    go true false f g h = absurd (differ n h)
    go false q f g h = absurd (differ n h)

-- eight digits that were read stand inside the line
pub bits_inside : (line : List ℕ) (at n : ℕ) → Word-read line at ≡ Some n → at + 8 ≤ length line
bits_inside line at n e = (reads line at n e).inside

digits-read : (line : List ℕ) (at : ℕ) → at + 8 ≤ length line → digits_only (take 8 (drop at line)) ≡ true
    → Word-read line at ≡ Some (number (take 8 (drop at line)))
unfolding Word-read
digits-read line at h e = rw (le-leb (at + 8) (length line) h, e)

-- the first word reaches to the first space
first-length : (t : List ℕ) → length (take (position space t) t) ≡ position space t
first-length t = length-take-le (position space t) t (position-bound space t)

-- a text whose first word is no value
values-refused : (t : List ℕ) (m : ℕ) → is_value (take (position space t) t) ≡ false → are_values m (words t) ≡ false
unfolding all_values
values-refused t m e = rw ((words-first t).1, e, and-false)

-- a line has at least one word
pub values-none : (line : List ℕ) → are_values 0 (words line) ≡ false
values-none line = rw ((words-first line).1, eqb-suc-zero)

values-long : (t : List ℕ) (m : ℕ) → (position space t ≡ 8 → ⊥) → are_values m (words t) ≡ false
values-long t m n = values-refused t m (rw (first-length t, ne_eqb (position space t) 8 n))

pub values-malformed : (line : List ℕ) (at m : ℕ) → Word-read line at ≡ None → are_values m (words (drop at line)) ≡ false
values-malformed line at m e = values-refused (drop at line) m (go (is_value (take (position space (drop at line)) (drop at line))) refl)
  where
    go : (p : Bool) → is_value (take (position space (drop at line)) (drop at line)) ≡ p → p ≡ false
    go false f = refl
    go true f =
        let tests =
        (and-eq-true_iff
        (eqb (length (take (position space (drop at line)) (drop at line))) 8)
        (digits_only (take (position space (drop at line)) (drop at line)))
        ).0 f in
        let q : position space (drop at line) ≡ 8 = sym (first-length (drop at line)) ∙ eqb-true _ 8 tests.0 in
        absurd (differ _
        (sym e
        ∙ digits-read line at (omega (arith, position-bound space (drop at line), length-drop at line)) (rw q at tests.1)))

module _ (line : List ℕ) (at n : ℕ) (e : Word-read line at ≡ Some n) where
  eight : length (take 8 (drop at line)) ≡ 8
  eight = length-take-le 8 (drop at line) (rw (length-drop at line) (omega (arith, (reads line at n e).inside)))

  is-value : is_value (take 8 (drop at line)) ≡ true
  is-value = rw (eight, (reads line at n e).only)

  value-of : value_of (take 8 (drop at line)) ≡ of_bits binary32 n
  value-of = rw (reads line at n e).writes

  -- the first space from the place on
  first-space : position space (drop at line) ≡ 8 + position space (drop (at + 8) line)
  first-space =
      ap (position space) (sym (take-append-drop 8 (drop at line)))
      ∙ digits-position (take 8 (drop at line)) (drop 8 (drop at line)) (reads line at n e).only
      ∙ rw (eight, drop-drop 8 at line)

  -- a value, spaces behind it, and more
  cut : (next : ℕ) → at + 8 < length line → get_or line (at + 8) 0 ≡ space → NextByte line (at + 8) next
      → words (drop at line) ≡ take 8 (drop at line) ∷ words (drop next line)
  cut next l f b =
      words-cut (drop at line) (single_spaced (drop next line)) 8 (rw (first-space, position_here space line (at + 8) l f))
      (rw (drop-drop 8 at line, ← f) b.spaced)

  pub values-more : (m next : ℕ) → at + 8 < length line → get_or line (at + 8) 0 ≡ space → NextByte line (at + 8) next
      → are_values (suc m) (words (drop at line)) ≡ are_values m (words (drop next line))
  unfolding all_values
  values-more m next l f b = rw (cut next l f b, is-value, eqb-suc-suc)

  pub values-next : (next : ℕ) → at + 8 < length line → get_or line (at + 8) 0 ≡ space → NextByte line (at + 8) next
      → map value_of (words (drop at line)) ≡ of_bits binary32 n ∷ map value_of (words (drop next line))
  values-next next l f b = rw (cut next l f b, value-of)

  -- a value at the end of the line
  last : length line ≤ at + 8 → words (drop at line) ≡ take 8 (drop at line) ∷ []
  last h =
      let r = reads line at n e in
      rw (take_all 8 (drop at line) (rw (length-drop at line) (omega arith)))
      (words-whole (drop at line) (rw (length-drop at line, first-space) (omega arith)))

  pub values-last : length line ≤ at + 8 → map value_of (words (drop at line)) ≡ of_bits binary32 n ∷ []
  values-last h = rw (last h, value-of)

  pub values-short : (m : ℕ) → length line ≤ at + 8 → are_values (suc (suc m)) (words (drop at line)) ≡ false
  values-short m h = rw (last h, eqb-suc-suc, eqb-zero-suc)

  -- a value with something else behind it
  pub values-unspaced : (m : ℕ) → at + 8 < length line → (get_or line (at + 8) 0 ≡ space → ⊥) → are_values m (words (drop at line)) ≡ false
  values-unspaced m l f =
      values-long (drop at line) m (omega (arith, first-space, position-next space line (at + 8) l f))

  -- one value is all that is left exactly at the end of the line
  pub values-final : are_values 1 (words (drop at line)) ≡ eqb (at + 8) (length line)
  unfolding all_values
  values-final = ⊎_elim whole left (eq-or-lt_of_le (reads line at n e).inside)
    where
      whole : at + 8 ≡ length line → are_values 1 (words (drop at line)) ≡ eqb (at + 8) (length line)
      whole f = rw (eq-eqb (at + 8) (length line) f, last (omega arith), is-value)

      spaced : at + 8 < length line → get_or line (at + 8) 0 ≡ space → are_values 1 (words (drop at line)) ≡ false
      spaced l f =
          let first = single_spaced-first space (drop (suc (at + 8)) line) in
          rw (
            words-cut (drop at line) first.0 8 (rw (first-space, position_here space line (at + 8) l f))
                (rw (drop-drop 8 at line, drop-cons line (at + 8) 0 l, f) first.1),
            (split-first space first.0).1,
            eqb-suc-suc,
            eqb-suc-zero,
          )

      left : at + 8 < length line → are_values 1 (words (drop at line)) ≡ eqb (at + 8) (length line)
      left l = rw (ne_eqb (at + 8) (length line) (omega arith)) (go (eqb (get_or line (at + 8) 0) space) refl)
        where
          go : (p : Bool) → eqb (get_or line (at + 8) 0) space ≡ p → are_values 1 (words (drop at line)) ≡ false
          go true f = spaced l (eqb-true (get_or line (at + 8) 0) space f)
          go false f = values-unspaced 1 l (eqb-false (get_or line (at + 8) 0) space f)
