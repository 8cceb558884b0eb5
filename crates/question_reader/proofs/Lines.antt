-- A line as a question, test by test: the word `plain` or `rigid` (`kind-*`), the floats behind it (`rest-*`), and the whole line (`line-*`).
use Prim.Native.Nat.{ℕ, ◌+◌, ◌≤◌, ◌<◌}
use mathlib.Core.Path.{◌≡◌, refl, ap}
use mathlib.Core.Bool.{Bool, true, false}
use mathlib.Core.List.{List}
use lib.Dec.{eqb}
use lib.Ieee.{Float}
use lib.ListN.{length, get_or}
use borrow.Author.Tests.{le-leb, lt-leb, lt-ltb, le-ltb, eq-eqb, ne_eqb}
use Rattle.question_lines.specs.motion_file.Text.{ascii, split, equal}
use Rattle.question_lines.specs.Words.{part, position_in, Words-position, Floats-read, Floats-stored}
use Rattle.question_reader.specs.declared.Question.{Question}
use Rattle.question_reader.specs.Question.{no_place, word_end, kind_place, Kind-read, Shape-fits, Question-none, floats_from, Question-rest, rest_stored}
use Rattle.question_reader.specs.Question.{name_kind, name_shape, line_kind, Question-read, wholes_stored, values_stored, Decimals-stored}
use Rattle.question_reader.proofs.Words.{word-past}

module _ (words : ℕ) (line : List ℕ) (at : ℕ) where
  pub kind-unasked : words ≡ 0 → record { end = at; rigid = false } ≡ Kind-read words line at
  unfolding Kind-read
  kind-unasked e = rw (eq-eqb words 0 e)

  pub kind-other : (words ≡ 0 → ⊥) → 2 ≤ kind_place line at → record { end = no_place; rigid = false } ≡ Kind-read words line at
  unfolding Kind-read
  kind-other n h = rw (ne_eqb words 0 n, le-ltb (kind_place line at) 2 h)

  pub kind-word : (words ≡ 0 → ⊥) → kind_place line at < 2 → record { end = word_end line (at + 1); rigid = eqb (kind_place line at) 1 } ≡ Kind-read words line at
  unfolding Kind-read
  kind-word n h = rw (ne_eqb words 0 n, lt-ltb (kind_place line at) 2 h)

  pub kind-past : length line ≤ at → kind_place line at ≡ 2
  unfolding position_in split equal ascii
  kind-past h = ap (λ (w : List ℕ). Words-position w (ascii "plain rigid")) (word-past line at h)

module _ (line : List ℕ) (at kind : ℕ) (rigid : Bool) (shape : List ℕ) (values : List Float) where
  -- what `read_rest` gives
  abbrev pub Rest : Question → List Float → Type 0
  Rest r after = (r ≡ Question-rest line at kind rigid shape values) × (after ≡ rest_stored line at shape values)

  pub rest-past : length line < at → Rest Question-none values
  unfolding Question-rest rest_stored
  rest-past h = rw (lt-leb at (length line) h) (refl, refl)

  pub rest-unfit : at ≤ length line → Shape-fits shape (floats_from line at) ≡ false → Rest Question-none values
  unfolding Question-rest rest_stored
  rest-unfit h e = rw (le-leb at (length line) h, e) (refl, refl)

  pub rest_read : (after : List Float) → at ≤ length line → Shape-fits shape (floats_from line at) ≡ true
      → Floats-read (part line at (length line)) (floats_from line at) values ≡ true
      → after ≡ Floats-stored (part line at (length line)) (floats_from line at) values
      → Rest (record { kind = kind; rigid = rigid; floats = floats_from line at }) after
  unfolding Question-rest rest_stored
  rest_read after h e f s = rw (le-leb at (length line) h, e, f) (refl, s)

  pub rest-malformed : (after : List Float) → at ≤ length line → Shape-fits shape (floats_from line at) ≡ true
      → Floats-read (part line at (length line)) (floats_from line at) values ≡ false
      → after ≡ Floats-stored (part line at (length line)) (floats_from line at) values
      → Rest Question-none after
  unfolding Question-rest rest_stored
  rest-malformed after h e f s = rw (le-leb at (length line) h, e, f) (refl, s)

module _ (most : ℕ) (names : List ℕ) (shapes : List (List ℕ)) (line wholes : List ℕ) (values : List Float) where
  -- what `read_question` gives
  abbrev pub Line : Question → List ℕ → List Float → Type 0
  Line r w v =
      (r ≡ Question-read most names shapes line values)
      × ((w ≡ wholes_stored most names shapes line wholes) × (v ≡ values_stored most names shapes line values))

  pub line-long : most < length line → Line Question-none wholes values
  unfolding Question-read wholes_stored values_stored
  line-long h = rw (lt-leb (length line) most h) (refl, (refl, refl))

  pub line-unnamed : length line ≤ most → length shapes ≤ name_kind most names shapes line → Line Question-none wholes values
  unfolding Question-read wholes_stored values_stored
  line-unnamed h n = rw (le-leb (length line) most h, le-ltb (name_kind most names shapes line) (length shapes) n) (refl, (refl, refl))

  pub line-named : (r : Question) (w : List ℕ) (v : List Float) → length line ≤ most → name_kind most names shapes line < length shapes
      → r
      ≡ Question-rest line (line_kind most names shapes line).end (name_kind most names shapes line) (line_kind most names shapes line).rigid
      (name_shape most names shapes line) values
      → w ≡ Decimals-stored (get_or (name_shape most names shapes line) 0 0) line (word_end line 0) wholes
      → v ≡ rest_stored line (line_kind most names shapes line).end (name_shape most names shapes line) values
      → Line r w v
  unfolding Question-read wholes_stored values_stored
  line-named r w v h n a b c = rw (le-leb (length line) most h, lt-ltb (name_kind most names shapes line) (length shapes) n) (a, (b, c))
