-- A hexadecimal digit as a byte of text (ASCII): `digit_value`, what a digit of either case is worth, and `lower_digits`, those that are written.
-- Document 01, "File and program": values are hexadecimal digits of either case; lower case is written. Rests on nothing.
use Rattle.std.specs.Prelude.{ℕ, suc, min, cond, List, [], ◌∷◌, eqb}

-- 0123456789abcdef
abbrev pub lower_digits : List ℕ
lower_digits = 48 ∷ 49 ∷ 50 ∷ 51 ∷ 52 ∷ 53 ∷ 54 ∷ 55 ∷ 56 ∷ 57 ∷ 97 ∷ 98 ∷ 99 ∷ 100 ∷ 101 ∷ 102 ∷ []

-- 0123456789ABCDEF
abbrev pub upper_digits : List ℕ
upper_digits = 48 ∷ 49 ∷ 50 ∷ 51 ∷ 52 ∷ 53 ∷ 54 ∷ 55 ∷ 56 ∷ 57 ∷ 65 ∷ 66 ∷ 67 ∷ 68 ∷ 69 ∷ 70 ∷ []

-- how many bytes stand before the first b: all of them where b is not there
unfoldable pub position : ℕ → List ℕ → ℕ
position b [] = 0
position b (c ∷ cs) = cond (eqb b c) 0 (suc (position b cs))

-- a digit is worth its position among the digits of its case; a byte that is no digit gives 16
unfoldable pub digit_value : ℕ → ℕ
unfolding position
digit_value b = min (position b lower_digits) (position b upper_digits)
