-- The line with the numbers of a first line and of a last one, as it is written from their digits: `digits_are`, `lines-written`.
use Prim.Native.Nat.{ℕ, zero, suc, ◌+◌, ◌-◌, ◌/◌, ◌%◌, ◌≤◌, ◌<◌}
use native.Mathlib.Nat.{mod-eq_of_lt}
use native.Mathlib.Omega.{arith}
use mathlib.Core.Path.{◌≡◌, refl, sym, ap, ◌∙◌}
use mathlib.Core.List.{List, [], ◌∷◌, ◌++◌, append_assoc}
use lib.ListN.{length, take, drop, length-append}
use Rattle.motion_text.specs.motion_file.Text.{ascii, line_feed}
use Rattle.motion_text.specs.Answer.{three_digits, zeros_in_front, text_left}
use Rattle.motion_text.proofs.Written.{number-line, length-number}
use Rattle.file_stretch.specs.Stretch.{lines_text}
use Rattle.file_stretch.proofs.Pieces.{both-written}

-- the digits of a number below 1,000, each by itself
pub digits_are : (n a b c : ℕ) (tail : List ℕ) → n < 1000 → a ≡ 48 + n / 100 % 10 → b ≡ 48 + n / 10 % 10 → c ≡ 48 + n % 10
    → a ∷ b ∷ c ∷ tail ≡ three_digits n ++ tail
digits_are n a b c tail h ea eb ec =
    let least : n / 100 < 10 = omega (arith, h) in
    let first : a ≡ 48 + n / 100 = ea ∙ ap (λ (d : ℕ). 48 + d) (mod-eq_of_lt least) in
    rw (first, eb, ec)

abbrev to : List ℕ
to = ascii " to "

first-cut : (z n : ℕ) → z ≤ 2 → take (7 - z) (drop z (three_digits n ++ to)) ≡ drop z (three_digits n) ++ to
unfolding ascii
first-cut zero n h = refl
first-cut (suc zero) n h = refl
first-cut (suc (suc zero)) n h = refl
first-cut (suc (suc (suc z))) n h = absurd (omega arith)

first-length : (z n : ℕ) → z ≤ 2 → length (drop z (three_digits n) ++ to) ≡ 7 - z
unfolding ascii
first-length zero n h = refl
first-length (suc zero) n h = refl
first-length (suc (suc zero)) n h = refl
first-length (suc (suc (suc z))) n h = absurd (omega arith)

module _ (first last a b : ℕ) (ea : a ≡ zeros_in_front first) (eb : b ≡ zeros_in_front last) (ha : a ≤ 2) (hb : b ≤ 2) where
  -- what stands behind the word
  abbrev numbers : List ℕ
  numbers = (drop a (three_digits first) ++ to) ++ (drop b (three_digits last) ++ (line_feed ∷ []))

  numbers-length : length numbers ≡ 11 - a - b
  numbers-length =
      let joined = length-append (drop a (three_digits first) ++ to) (drop b (three_digits last) ++ (line_feed ∷ [])) in
      let l = first-length a first ha in
      let r = length-number b last hb in
      omega (arith, joined, l, r, ha, hb)

  lines-text : lines_text first last ≡ ascii "lines " ++ numbers
  unfolding lines_text
  lines-text = rw (← ea, ← eb)
      (ap (λ (t : List ℕ). ascii "lines " ++ t) (sym (append_assoc (drop a (three_digits first)) to (drop b (three_digits last) ++ (line_feed ∷ [])))))

  pub lines-written : (buffer half after start end : List ℕ) → start ≡ three_digits first ++ to → end ≡ three_digits last ++ (line_feed ∷ []) → 17 ≤ length buffer
      → half ≡ text_left (ascii "lines ") buffer
      → after
      ≡ take 6 half
      ++ (text_left (take (7 - a) (drop a start) ++ take (4 - b) (drop b end)) (take (length half - 6) (drop 6 half)) ++ drop (length half - 6) (drop 6 half))
      → (17 - a - b ≡ length (lines_text first last)) × ((after ≡ text_left (lines_text first last) buffer) × (17 - a - b ≤ 17))
  lines-written buffer half after start end es ee room written e =
      let cut : take (7 - a) (drop a start) ++ take (4 - b) (drop b end) ≡ numbers = rw (es, ee, first-cut a first ha, number-line b last hb) in
      let size = numbers-length in
      let six : 6 ≡ length (ascii "lines ") = unfold ascii in refl in
      let whole : length (ascii "lines " ++ numbers) ≡ 6 + length numbers =
      length-append (ascii "lines ") numbers ∙ ap (λ (k : ℕ). k + length numbers) (sym six) in
      rw lines-text (
        omega (arith, whole, size, ha, hb),
        (both-written (ascii "lines ") numbers buffer half 6 six (omega (arith, size, room)) written after (rw cut at e), omega arith),
      )
