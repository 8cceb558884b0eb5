-- Lines by the place in a file at which they begin: `line_at`, and `after_line`, where the next one begins; `through`, where several lead, and `lines_through`,
-- those lines. Rests on `Layout.antt`.
use Rattle.std.specs.Prelude.{ℕ, ◌+◌, ◌≤◌, ◌<◌, ◌≡◌, cond, ◌&&◌, List, [], ◌∷◌, ltb, length, take, drop, get_or}
use Rattle.hexadecimal.specs.Digit.{position}
use Rattle.motion_file.specs.Text.{line_feed, single_spaced}
use Rattle.motion_file.specs.Layout.{Line, fits, max_bytes}

-- how many bytes stand from a place to the next line feed, or to the end
abbrev pub line_length : List ℕ → ℕ → ℕ
line_length s at = position line_feed (drop at s)

abbrev pub line_at : List ℕ → ℕ → List ℕ
line_at s at = take (line_length s at) (drop at s)

-- a place past the end of every file
abbrev pub past_end : ℕ
past_end = max_bytes + 1

-- where the next line begins after one of that kind; past the end of every file where none of that kind stands at the place
unfoldable pub after_line : Line → List ℕ → ℕ → ℕ
after_line kind s at =
    cond (ltb (at + line_length s at) (length s) && fits kind (line_at s at)) (at + line_length s at + 1) past_end

-- the place to which lines of these kinds lead
unfoldable pub through : List Line → List ℕ → ℕ → ℕ
through [] s at = at
through (kind ∷ kinds) s at = through kinds s (after_line kind s at)

unfoldable pub lines_through : List Line → List ℕ → ℕ → List (List ℕ)
lines_through [] s at = []
lines_through (kind ∷ kinds) s at = line_at s at ∷ lines_through kinds s (after_line kind s at)

-- the next place of a line after the byte at a place, a run of spaces being one
pub record NextByte (line : List ℕ) (at next : ℕ) : Type 0 where
  pub after : at < next
  pub within : next ≤ length line
  pub spaced : single_spaced (drop at line) ≡ get_or line at 0 ∷ single_spaced (drop next line)
