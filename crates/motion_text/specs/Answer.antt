-- The text that answers a move file: `bounds_text`, `refusal_text`, and `text_left`, a lent buffer with a text in its front. Document 01, "File and program":
-- a box is printed under its names, a refusal as the line `refused` and a line with the number. Digits are in lower case, a zero keeps its sign,
-- and a NaN is written as 7fc00000. Rests on the texts of `motion_file` and the digits of `hexadecimal`.
use Rattle.std.specs.Prelude.{ℕ, ◌+◌, ◌/◌, ◌%◌, cond, List, [], ◌∷◌, ◌++◌, map, leb, ltb, length, drop, Float}
use Rattle.std.specs.Float.{binary32}
use Rattle.std.specs.Float.Ieee.{to_bits}
use Rattle.hexadecimal.specs.Word.{digits}
use Rattle.motion_file.specs.Text.{ascii, line_feed, space}
use Rattle.motion_file.specs.Layout.{bounds_names}

-- what stands behind a word, by the words that follow it
abbrev pub separator : List (List ℕ) → ℕ
separator [] = line_feed
separator (w ∷ ws) = space

-- a line of words: one space between them, and a line feed behind the last
unfoldable pub line : List (List ℕ) → List ℕ
line [] = []
line (w ∷ ws) = w ++ (separator ws ∷ line ws)

-- eight hexadecimal digits in lower case, the float's bits
abbrev pub word_of : Float → List ℕ
word_of x = digits 8 (to_bits binary32 x)

-- the text of a box: its names and its values
unfoldable pub bounds_text : List Float → List ℕ
bounds_text bounds = bounds_names ++ (line_feed ∷ line (map word_of bounds))

-- the three decimal digits of a number below 1,000, and how many of them are zeros in front of it
abbrev pub three_digits : ℕ → List ℕ
three_digits n = (48 + n / 100) ∷ (48 + n / 10 % 10) ∷ (48 + n % 10) ∷ []

abbrev pub zeros_in_front : ℕ → ℕ
zeros_in_front n = cond (ltb n 10) 2 (cond (ltb n 100) 1 0)

-- a number below 1,000 in decimal
abbrev pub decimal : ℕ → List ℕ
decimal n = drop (zeros_in_front n) (three_digits n)

-- the text of a refusal
unfoldable pub refusal_text : ℕ → List ℕ
refusal_text number = ascii "refused\n" ++ (decimal number ++ (line_feed ∷ []))

-- a buffer with a text in its front, the bytes behind it kept; the buffer as it came where the text doesn't fit
unfoldable pub text_left : List ℕ → List ℕ → List ℕ
text_left text buffer = cond (leb (length text) (length buffer)) (text ++ drop (length text) buffer) buffer

-- the length of a text that fits, and 0
unfoldable pub length_in : List ℕ → List ℕ → ℕ
length_in text buffer = cond (leb (length text) (length buffer)) (length text) 0
