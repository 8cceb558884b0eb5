-- The line of values as it is written, value by value: `length-values`, `values-word`, `values-separator`,
-- and `values-turn`, what one value with its separator adds to a buffer; how long a refusal's text is: `length-refusal`, `refusal-bound`.
-- Rests on `Pastes.antt`.
use Prim.Native.Nat.{ℕ, zero, suc, ◌+◌, ◌-◌, ◌*◌, ◌≤◌, ◌<◌}
use native.Mathlib.Nat.{add_assoc, not-suc-le-zero}
use native.Mathlib.Numerals.{add-one}
use native.Mathlib.Omega.{arith}
use mathlib.Core.Path.{◌≡◌, refl, sym, ◌∙◌}
use mathlib.Core.Bool.{Bool, true, false, cond}
use mathlib.Core.List.{List, [], ◌∷◌, ◌++◌, map}
use lib.Dec.{ltb}
use lib.Ieee.{Float, nan, binary32, to_bits}
use lib.ListN.{length, take, drop, get_or, set, length-append, drop_of_length-le}
use lib.Seq.{paste, paste-suc, drop-cons, drop-drop, get_or-drop, length-paste}
use borrow.Author.Tests.{ltb-true, ltb-false}
use Rattle.hexadecimal.specs.Word.{digits, Word-write}
use Rattle.hexadecimal.proofs.Words.{length_digits, write-fits}
use Rattle.motion_file.specs.Text.{ascii, space, line_feed}
use Rattle.motion_text.specs.Answer.{separator, line, word_of, three_digits, zeros_in_front, bounds_text, refusal_text}
use Rattle.motion_text.proofs.Pastes.{paste-paste}

-- a line of values
abbrev pub values_line : List Float → List ℕ
values_line xs = line (map word_of xs)

pub length-values : (xs : List Float) → length (values_line xs) ≡ 9 * length xs
unfolding line
length-values [] = refl
length-values (x ∷ xs) =
    length-append (word_of x) (separator (map word_of xs) ∷ values_line xs)
    ∙ rw (length_digits 8 (to_bits binary32 x), length-values xs) (omega arith)

-- the buffer stays as long as it was
pub values-size : (xs : List Float) (k : ℕ) (d : List ℕ) (at : ℕ) → k ≤ length xs → at + 9 * length xs ≤ length d
    → length (paste d at (values_line xs) (9 * k)) ≡ length d
values-size xs k d at h room = length-paste d at (values_line xs) (9 * k) (omega arith) (rw (length-values xs) (omega arith))

nine-on : (x : Float) (xs : List Float) → drop 9 (values_line (x ∷ xs)) ≡ values_line xs
unfolding line digits
nine-on x xs = refl

values-drop : (k : ℕ) (xs : List Float) → k ≤ length xs → drop (9 * k) (values_line xs) ≡ values_line (drop k xs)
values-drop zero xs h = refl
values-drop (suc k) [] h = absurd (not-suc-le-zero h)
values-drop (suc k) (x ∷ xs) h =
    let e : 9 * suc k ≡ 9 + 9 * k = omega arith in
    rw (e, ← drop-drop (9 * k) 9 (values_line (x ∷ xs)), nine-on x xs) (values-drop k xs (omega arith))

separator-drop : (xs : List Float) (j : ℕ) → separator (map word_of (drop j xs)) ≡ cond (ltb j (length xs)) space line_feed
separator-drop xs j = go (ltb j (length xs)) refl
  where
    go : (p : Bool) → ltb j (length xs) ≡ p → separator (map word_of (drop j xs)) ≡ cond p space line_feed
    go true e = rw (drop-cons xs j nan (ltb-true j (length xs) e))
    go false e = rw (drop_of_length-le xs (ltb-false j (length xs) e))

module _ (xs : List Float) (k : ℕ) (h : k < length xs) where
  from-value : drop (9 * k) (values_line xs) ≡ word_of (get_or xs k nan) ++ (separator (map word_of (drop (suc k) xs)) ∷ values_line (drop (suc k) xs))
  unfolding line
  from-value = values-drop k xs (omega arith) ∙ rw (drop-cons xs k nan h)

  values-word : take 8 (drop (9 * k) (values_line xs)) ≡ take 8 (word_of (get_or xs k nan))
  unfolding digits
  values-word = rw from-value

  values-separator : get_or (values_line xs) (9 * k + 8) 0 ≡ cond (ltb (k + 1) (length xs)) space line_feed
  unfolding digits
  values-separator = rw (← get_or-drop (9 * k) (values_line xs) 8 0, from-value, add-one k) (separator-drop xs (suc k))

  -- a value and what stands behind it, put behind the first k
  pub values-turn : (d o w : List ℕ) (at n b : ℕ) → at + 9 * length xs ≤ length d → o ≡ paste d at (values_line xs) (9 * k)
      → n ≡ to_bits binary32 (get_or xs k nan) → w ≡ Word-write o (at + 9 * k) n → b ≡ cond (ltb (k + 1) (length xs)) space line_feed
      → set w (at + 9 * k + 8) b ≡ paste d at (values_line xs) (9 * (k + 1))
  values-turn d o w at n b room eo en ew eb =
      let size : length o ≡ length d = rw eo (values-size xs k d at (omega arith) room) in
      let written : w ≡ paste d at (values_line xs) (9 * k + 8) =
      ew
      ∙ sym (write-fits o (at + 9 * k) n (omega (arith, size)))
      ∙ rw (eo, en)
      (paste-paste d at (values_line xs) (word_of (get_or xs k nan)) (9 * k) 8 (omega arith) (rw (length-values xs) (omega arith)) values-word) in
      let nine : 9 * (k + 1) ≡ suc (9 * k + 8) = omega arith in
      rw (written, eb, ← values-separator, nine, add_assoc at (9 * k) 8)
      (paste-suc d at (values_line xs) (9 * k + 8) 0 (omega arith) (rw (length-values xs) (omega arith)))

pub length-bounds : (xs : List Float) → length xs ≡ 6 → length (bounds_text xs) ≡ 72
unfolding bounds_text ascii
length-bounds xs h = rw (length-values xs, h)

-- the line with a refusal's number is cut from its three digits and a line feed
pub number-line : (z n : ℕ) → z ≤ 2 → take (4 - z) (drop z (three_digits n ++ (line_feed ∷ []))) ≡ drop z (three_digits n) ++ (line_feed ∷ [])
number-line zero n h = refl
number-line (suc zero) n h = refl
number-line (suc (suc zero)) n h = refl
number-line (suc (suc (suc z))) n h = absurd (omega arith)

pub length-number : (z n : ℕ) → z ≤ 2 → length (drop z (three_digits n) ++ (line_feed ∷ [])) ≡ 4 - z
length-number zero n h = refl
length-number (suc zero) n h = refl
length-number (suc (suc zero)) n h = refl
length-number (suc (suc (suc z))) n h = absurd (omega arith)

pub length-refusal : (n z : ℕ) → z ≡ zeros_in_front n → z ≤ 2 → length (refusal_text n) ≡ 12 - z
unfolding refusal_text ascii
length-refusal n z e h = rw (← e, length-number z n h) (omega arith)

zeros-few : (n : ℕ) → zeros_in_front n ≤ 2
zeros-few n = go (ltb n 10) (ltb n 100)
  where
    go : (p q : Bool) → cond p 2 (cond q 1 0) ≤ 2
    go true q = omega arith
    go false true = omega arith
    go false false = omega arith

pub refusal-bound : (n : ℕ) → length (refusal_text n) ≤ 12
refusal-bound n = omega (arith, length-refusal n (zeros_in_front n) refl (zeros-few n))
