-- A line as a question: `Question-read`, what it asks; `wholes_stored` and `values_stored`, the lent whole numbers and floats after that.
-- Rests on the words of `question_lines`. The protocol of the test programs: a name, whole numbers, for some the word `plain` or `rigid`, floats.
use Rattle.std.specs.Prelude.{ℕ, zero, suc, ◌+◌, ◌-◌, ◌/◌, ◌%◌, ◌^◌, Bool, false, cond, ◌&&◌, List, [], eqb, leb, ltb, Float, length, drop, get_or, set}
use Rattle.question_lines.specs.hexadecimal.Digit.{position}
use Rattle.question_lines.specs.motion_file.Text.{ascii, space}
use Rattle.question_lines.specs.Words.{part, Words-position, Decimal-read, Floats-read, Floats-stored, if_some}
use Rattle.question_reader.specs.declared.Question.{Question}
use Rattle.question_reader.specs.declared.Kind.{Kind}

-- a place that no line has
abbrev pub no_place : ℕ
no_place = 2 ^ 64 - 1

-- the place behind the word that starts at a place: that of the next space, or the line's end
unfoldable pub word_end : List ℕ → ℕ → ℕ
word_end line at = at + position space (drop at line)

-- the word that starts at a place
abbrev pub word_at : List ℕ → ℕ → List ℕ
word_at line at = part line at (word_end line at)

-- the place behind n whole numbers, a space before each; none where one is malformed
unfoldable pub decimals_end : ℕ → List ℕ → ℕ → ℕ
decimals_end zero line at = at
decimals_end (suc n) line at = if_some (Decimal-read (word_at line (at + 1))) (λ _. decimals_end n line (word_end line (at + 1))) no_place

-- the whole numbers with these in their places from the k-th on, up to the first that is malformed
unfoldable pub decimals_stored : ℕ → ℕ → List ℕ → ℕ → List ℕ → List ℕ
decimals_stored zero k line at wholes = wholes
decimals_stored (suc n) k line at wholes =
    if_some (Decimal-read (word_at line (at + 1))) (λ v. decimals_stored n (suc k) line (word_end line (at + 1)) (set wholes k v)) wholes

-- no more than four
unfoldable pub Decimals-end : ℕ → List ℕ → ℕ → ℕ
Decimals-end count line at = cond (leb count 4) (decimals_end count line at) no_place

unfoldable pub Decimals-stored : ℕ → List ℕ → ℕ → List ℕ → List ℕ
Decimals-stored count line at wholes = cond (leb count 4) (decimals_stored count 0 line at wholes) wholes

-- which of the two words follows a place: 0, 1, or 2 for neither
abbrev pub kind_place : List ℕ → ℕ → ℕ
kind_place line at = Words-position (word_at line (at + 1)) (ascii "plain rigid")

-- the word that says how a chain is built, where there is one
unfoldable pub Kind-read : ℕ → List ℕ → ℕ → Kind
Kind-read words line at =
    cond (eqb words 0) (record { end = at; rigid = false })
    (cond (ltb (kind_place line at) 2) (record { end = word_end line (at + 1); rigid = eqb (kind_place line at) 1 }) (record { end = no_place; rigid = false }))

-- whether a question of a shape may have so many floats: as many as it asks for, or more by a multiple of what each further thing has
unfoldable pub Shape-fits : List ℕ → ℕ → Bool
Shape-fits shape floats =
    cond (ltb floats (get_or shape 2 0)) false
    (cond (eqb (get_or shape 3 0) 0) (eqb floats (get_or shape 2 0)) (eqb ((floats - get_or shape 2 0) % get_or shape 3 0) 0))

unfoldable pub Question-none : Question
Question-none = record { kind = no_place; rigid = false; floats = 0 }

-- how many floats a line has from a place on, by its length
abbrev pub floats_from : List ℕ → ℕ → ℕ
floats_from line at = (length line - at) / 9

abbrev pub rest_fits : List ℕ → ℕ → List ℕ → Bool
rest_fits line at shape = leb at (length line) && Shape-fits shape (floats_from line at)

-- the question whose floats are the rest of the line, none where they are not
unfoldable pub Question-rest : List ℕ → ℕ → ℕ → Bool → List ℕ → List Float → Question
Question-rest line at kind rigid shape values =
    cond (rest_fits line at shape && Floats-read (part line at (length line)) (floats_from line at) values)
    (record { kind = kind; rigid = rigid; floats = floats_from line at })
    Question-none

unfoldable pub rest_stored : List ℕ → ℕ → List ℕ → List Float → List Float
rest_stored line at shape values = cond (rest_fits line at shape) (Floats-stored (part line at (length line)) (floats_from line at) values) values

module _ (most : ℕ) (names : List ℕ) (shapes : List (List ℕ)) (line : List ℕ) where
  -- the place of the line's name
  abbrev pub name_kind : ℕ
  name_kind = Words-position (word_at line 0) names

  -- a line that is not too long, with a name of the list
  abbrev pub is_named : Bool
  is_named = leb (length line) most && ltb name_kind (length shapes)

  abbrev pub name_shape : List ℕ
  name_shape = get_or shapes name_kind []

  -- the word of the line, and the place from which on its floats stand
  abbrev pub line_kind : Kind
  line_kind = Kind-read (get_or name_shape 1 0) line (Decimals-end (get_or name_shape 0 0) line (word_end line 0))

  unfoldable pub Question-read : List Float → Question
  Question-read values = cond is_named (Question-rest line line_kind.end name_kind line_kind.rigid name_shape values) Question-none

  unfoldable pub wholes_stored : List ℕ → List ℕ
  wholes_stored wholes = cond is_named (Decimals-stored (get_or name_shape 0 0) line (word_end line 0) wholes) wholes

  unfoldable pub values_stored : List Float → List Float
  values_stored values = cond is_named (rest_stored line line_kind.end name_shape values) values
