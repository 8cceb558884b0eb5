-- Words of a question line: `part`, what stands between two places; `Words-position`, a word's place in a list; `Decimal-read`, a whole number below 2^64;
-- `Decimal-read_saturated`, one of any size as 32 bits hold it; `Floats-read` and `Floats-stored`, floats with a space before each. Rests on the texts of
-- `motion_file` and the words of `hexadecimal`.
use Rattle.std.specs.Prelude.{ℕ, zero, suc, ◌+◌, ◌-◌, ◌*◌, ◌^◌, Bool, true, false, cond, ◌&&◌, List, [], ◌∷◌, eqb, leb, ltb, Float, length, take, drop, get_or, set, Option, Some, None}
use Rattle.std.specs.Float.{binary32}
use Rattle.std.specs.Float.Ieee.{of_bits}
use Rattle.hexadecimal.specs.Word.{Word-read}
use Rattle.motion_text.specs.motion_file.Text.{space, split, equal}

-- the bytes from a place up to another, none where the second is no place of the text or stands before the first
unfoldable pub part : List ℕ → ℕ → ℕ → List ℕ
part s from to = cond (leb to (length s)) (take (to - from) (drop from s)) []

-- how many words stand before the first that is the same: all of them where none is
unfoldable pub position_in : List ℕ → List (List ℕ) → ℕ
position_in word [] = 0
position_in word (w ∷ ws) = cond (equal w word) 0 (suc (position_in word ws))

-- the place of a word among those that single spaces part
abbrev pub Words-position : List ℕ → List ℕ → ℕ
Words-position word list = position_in word (split space list)

-- the number n with a decimal digit behind it, below 2^64
abbrev pub appended : ℕ → ℕ → ℕ
appended n b = n * 10 + (b - 48)

abbrev pub can_append : ℕ → ℕ → Bool
can_append n b = leb 48 b && leb b 57 && ltb (appended n b) (2 ^ 64)

unfoldable pub Decimal-append : ℕ → ℕ → Option ℕ
Decimal-append n b = cond (can_append n b) (Some (appended n b)) None

-- a number with digits behind it
unfoldable pub append_all : ℕ → List ℕ → Option ℕ
append_all n [] = Some n
append_all n (b ∷ bs) = cond (can_append n b) (append_all (appended n b) bs) None

-- a word of at least one digit, with any zeros in front
unfoldable pub Decimal-read : List ℕ → Option ℕ
Decimal-read word = cond (eqb (length word) 0) None (append_all 0 word)

-- a number as 32 bits hold it: itself, or the greatest that they hold
abbrev pub Decimal-saturated : ℕ → ℕ
Decimal-saturated n = cond (ltb n (2 ^ 32)) n (2 ^ 32 - 1)

unfoldable pub are_digits : List ℕ → Bool
are_digits [] = true
are_digits (b ∷ bs) = leb 48 b && leb b 57 && are_digits bs

-- the number n with all these digits behind it
unfoldable pub number_from : ℕ → List ℕ → ℕ
number_from n [] = n
number_from n (b ∷ bs) = number_from (appended n b) bs

-- a word of at least one digit, with any zeros in front, as 32 bits hold its number
unfoldable pub Decimal-read_saturated : List ℕ → Option ℕ
Decimal-read_saturated word = cond (ltb 0 (length word) && are_digits word) (Some (Decimal-saturated (number_from 0 word))) None

-- a space and a float's eight digits at a place
unfoldable pub Float-read : List ℕ → ℕ → Option ℕ
Float-read text at = cond (eqb (get_or text at 0) space) (Word-read text (at + 1)) None

-- what follows from a word's bits, and what else where it is malformed
abbrev pub if_some : {A : Type 0} → Option ℕ → (ℕ → A) → A → A
if_some (Some n) f a = f n
if_some None f a = a

-- whether n floats stand in a text, the first of them its k-th
unfoldable pub floats_from : ℕ → ℕ → List ℕ → Bool
floats_from zero k text = true
floats_from (suc n) k text = if_some (Float-read text (9 * k)) (λ _. floats_from n (suc k) text) false

-- the values with these floats in their places, up to the first that is malformed
unfoldable pub stored_from : ℕ → ℕ → List ℕ → List Float → List Float
stored_from zero k text values = values
stored_from (suc n) k text values = if_some (Float-read text (9 * k)) (λ bits. stored_from n (suc k) text (set values k (of_bits binary32 bits))) values

-- a text as long as so many floats, and values that have places for them
abbrev pub Floats-fit : List ℕ → ℕ → List Float → Bool
Floats-fit text count values = leb count (length values) && eqb (length text) (9 * count)

-- whether a text is so many floats
unfoldable pub Floats-read : List ℕ → ℕ → List Float → Bool
Floats-read text count values = Floats-fit text count values && floats_from count 0 text

-- the values with the floats of a text in front, as far as they are read; the values as they came where the sizes do not fit
unfoldable pub Floats-stored : List ℕ → ℕ → List Float → List Float
Floats-stored text count values = cond (Floats-fit text count values) (stored_from count 0 text values) values
