-- What is written is read back, for any line of names and any number of values in each line under it: `RoundTrip`, the statement of `round_trip`; and how long
-- the text is: `TextLength`, the statement of `text-length`.
use Rattle.std.specs.Prelude.{ℕ, ◌+◌, ◌*◌, ◌<◌, ◌≡◌, true, List, [], ◌∷◌, map, T, length, get_or, take, drop, Float}
use Rattle.std.specs.Float.{binary32}
use Rattle.std.specs.Float.Ieee.{fits}
use Rattle.built_poses.specs.motion_chain.Chain.{every}
use Rattle.built_poses.specs.motion_chain.Built.{Each}
use Rattle.motion_text.specs.motion_file.Text.{line_feed, split, single_spaced}
use Rattle.motion_text.specs.motion_file.Layout.{layout, conforms, pose_lines, values_of}
use Rattle.file_text.specs.Text.{file_text}

-- so many 32-bit floats
pub record Floats (n : ℕ) (xs : List Float) : Type 0 where
  pub count : length xs ≡ n
  pub each-binary32 : T (every (fits binary32) xs)

-- names that stand on one line, with one space between two
pub record NamesLine (text : List ℕ) : Type 0 where
  pub one_line : split line_feed text ≡ text ∷ []
  pub single-spaced : single_spaced text ≡ text

-- the bytes keep the layout with these names and so many columns, and hold these lines of values and this box
pub record TextHolds (bytes text : List ℕ) (columns : ℕ) (lines : List (List Float)) (bounds : List Float) : Type 0 where
  pub kept : conforms (layout text columns (length lines)) (split line_feed bytes) ≡ true
  pub count : pose_lines (split line_feed bytes) ≡ length lines
  pub values : map values_of (take (length lines) (drop 1 (split line_feed bytes))) ≡ lines
  pub box : values_of (get_or (split line_feed bytes) (length lines + 2) []) ≡ bounds

abbrev pub RoundTrip : List ℕ → ℕ → Type 0
RoundTrip text columns =
    (lines : List (List Float)) (bounds : List Float)
    → NamesLine text → 0 < columns → Each (Floats columns) lines → Floats 6 bounds
    → TextHolds (file_text text lines bounds) text columns lines bounds

-- a line of n values has 9 n bytes, and a box 72
abbrev pub TextLength : List ℕ → ℕ → Type 0
TextLength text columns =
    (lines : List (List Float)) (bounds : List Float)
    → Each (λ values. length values ≡ columns) lines → length bounds ≡ 6
    → length (file_text text lines bounds) ≡ length text + 1 + 9 * columns * length lines + 72
