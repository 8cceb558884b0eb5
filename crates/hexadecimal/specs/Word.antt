-- A word of eight hexadecimal digits in a list of bytes: `Word-read`, the number that stands at a place, and `Word-write`, the list with a number put there.
-- Document 01, "File and program": a value is eight hexadecimal digits, the most significant first. Rests on the digits of `Digit.antt`.
use Rattle.std.specs.Prelude.{ℕ, zero, suc, ◌+◌, ◌*◌, ◌/◌, ◌%◌, ◌^◌, Bool, true, cond, ◌&&◌, List, [], ◌∷◌, ◌++◌, ltb, leb, length, take, drop, get_or, Option, Some, None}
use Rattle.hexadecimal.specs.Digit.{digit_value, lower_digits}

-- every byte is a digit
unfoldable pub digits_only : List ℕ → Bool
digits_only [] = true
digits_only (b ∷ bs) = ltb (digit_value b) 16 && digits_only bs

-- the number that the digits write, the most significant first
unfoldable pub number : List ℕ → ℕ
number [] = 0
number (b ∷ bs) = digit_value b * 16 ^ length bs + number bs

-- that number, or another where a byte is no digit
unfoldable pub number_or : ℕ → List ℕ → ℕ
number_or other bs = cond (digits_only bs) (number bs) other

-- whether a list of that length has eight bytes from the place on
abbrev pub Word-fits : ℕ → ℕ → Bool
Word-fits size at = leb (at + 8) size

-- the bits that the eight digits from the place on write; malformed where they are fewer or a byte is no digit
unfoldable pub Word-read : List ℕ → ℕ → Option ℕ
Word-read s at = cond (Word-fits (length s) at && digits_only (take 8 (drop at s))) (Some (number (take 8 (drop at s)))) None

-- the k lowest digits of n, in lower case
unfoldable pub digits : ℕ → ℕ → List ℕ
digits zero n = []
digits (suc k) n = get_or lower_digits (n / 16 ^ k % 16) 0 ∷ digits k n

-- the list with the eight digits of n from the place on; the list itself where they do not fit
unfoldable pub Word-write : List ℕ → ℕ → ℕ → List ℕ
Word-write s at n = cond (Word-fits (length s) at) (take at s ++ digits 8 n ++ drop (at + 8) s) s
