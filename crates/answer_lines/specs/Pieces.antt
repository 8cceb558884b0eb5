-- Pieces of text in a lent buffer: `put`, a piece from a place on, and `behind`, the place behind it; `put_all` and `behind_all`, pieces that follow each other;
-- `decimal`, a whole number, and `floats_text`, floats with a space before each. Rests on the texts of `motion_text` and the digits of its own `decimal`.
use Rattle.std.specs.Prelude.{ℕ, zero, suc, ◌+◌, ◌/◌, ◌%◌, cond, List, [], ◌∷◌, ◌++◌, leb, ltb, Float, length, take, drop}
use Rattle.motion_text.specs.motion_file.Text.{ascii, line_feed, space}
use Rattle.motion_text.specs.Answer.{word_of}

-- the buffer with a text from a place on, the other bytes kept; the buffer as it came where the text has no room
unfoldable pub put : List ℕ → List ℕ → ℕ → List ℕ
put text buffer at = cond (leb (at + length text) (length buffer)) (take at buffer ++ text ++ drop (at + length text) buffer) buffer

-- the place behind the text; its own place where it has no room
unfoldable pub behind : List ℕ → List ℕ → ℕ → ℕ
behind text buffer at = cond (leb (at + length text) (length buffer)) (at + length text) at

-- pieces one behind the other, each that has no room left out
unfoldable pub put_all : List (List ℕ) → List ℕ → ℕ → List ℕ
put_all [] buffer at = buffer
put_all (t ∷ ts) buffer at = put_all ts (put t buffer at) (behind t buffer at)

unfoldable pub behind_all : List (List ℕ) → List ℕ → ℕ → ℕ
behind_all [] buffer at = at
behind_all (t ∷ ts) buffer at = behind_all ts (put t buffer at) (behind t buffer at)

-- the decimal digits of a number below 10^(k + 1), with no zeros in front
unfoldable pub decimal_up_to : ℕ → ℕ → List ℕ
decimal_up_to zero n = (48 + n) ∷ []
decimal_up_to (suc k) n = cond (ltb n 10) ((48 + n) ∷ []) (decimal_up_to k (n / 10) ++ ((48 + n % 10) ∷ []))

-- a number below 2^64 in decimal
abbrev pub decimal : ℕ → List ℕ
decimal n = decimal_up_to 19 n

-- the pieces of a whole number in a line, and of the line that answers a refused question
abbrev pub whole_pieces : ℕ → List (List ℕ)
whole_pieces n = (space ∷ []) ∷ decimal n ∷ []

abbrev pub refused_pieces : ℕ → List (List ℕ)
refused_pieces n = ascii "refused" ∷ (space ∷ []) ∷ decimal n ∷ (line_feed ∷ []) ∷ []

-- floats, a space before each
unfoldable pub spaced_floats : List Float → List ℕ
spaced_floats [] = []
spaced_floats (x ∷ xs) = space ∷ (word_of x ++ spaced_floats xs)

-- the first so many floats, none where there are fewer
unfoldable pub floats_text : List Float → ℕ → List ℕ
floats_text values count = cond (leb count (length values)) (spaced_floats (take count values)) []
