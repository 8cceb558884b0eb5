-- The layout of a move file and what such a file says: `layout`, `conforms`, `MoveFile-read`, `MoveFile-box`, `MoveFile-poses`. Document 01, "File and
-- program": a line of names, then lines of values in that order; values are eight hexadecimal digits of either case, the float's bits; one or more spaces
-- stand between words, none before the first or after the last; every line ends in a line feed; a file has at most 65,536 bytes. Whatever departs from it
-- is refused with 11, and every number is then +0. A NaN's bits all mean the one NaN. Rests on `Text.antt`, the digits of `hexadecimal` and the bottom row
-- of `matrix4x4`.
use Rattle.std.specs.Prelude.{ℕ, ◌+◌, ◌-◌, Bool, true, false, cond, ◌&&◌, List, [], ◌∷◌, ◌++◌, map, eqb, leb, length, get_or, take, drop, replicate, Float}
use Rattle.std.specs.Float.{binary32}
use Rattle.std.specs.Float.Ieee.{of_bits}
use Rattle.bounds3.specs.declared.Bounds3f.{Bounds3f}
use Rattle.bounds3.specs.List.{Bounds3f-of_list}
use Rattle.matrix4x4.specs.IsAffine.{bottom_row}
use Rattle.hexadecimal.specs.Word.{digits_only, number}
use Rattle.motion_file.specs.Text.{ascii, line_feed, space, split, single_spaced, equal}
use Rattle.motion_file.specs.declared.MoveFile.{MoveFile}

-- a kind of line: a text of names, or a number of values
pub data Line : Type 0 where
  names : List ℕ → Line
  values : ℕ → Line

-- the names of a pose's values; document 02, "Pads for the spray": "a fourteenth column `pad` after m23"; those of a box's, least corner and greatest corner
abbrev pub pose_names : List ℕ
pose_names = ascii "time m00 m01 m02 m03 m10 m11 m12 m13 m20 m21 m22 m23"

abbrev pub padded_names : List ℕ
padded_names = ascii "time m00 m01 m02 m03 m10 m11 m12 m13 m20 m21 m22 m23 pad"

abbrev pub bounds_names : List ℕ
bounds_names = ascii "x0 y0 z0 x1 y1 z1"

-- the lines of a move file with n poses, of so many values with those names, and a box; document 02, "Poses in a chain": "A file's pose lines, however many,
-- are a chain."
abbrev pub layout : List ℕ → ℕ → ℕ → List Line
layout text columns n = names text ∷ (replicate n (values columns) ++ (names bounds_names ∷ values 6 ∷ []))

-- what stands between runs of spaces; a space before the first word or after the last makes an empty word, which is no name and no value
abbrev pub words : List ℕ → List (List ℕ)
words line = split space (single_spaced line)

abbrev pub is_value : List ℕ → Bool
is_value word = eqb (length word) 8 && digits_only word

abbrev pub value_of : List ℕ → Float
value_of word = of_bits binary32 (number word)

unfoldable pub all_values : List (List ℕ) → Bool
all_values [] = true
all_values (w ∷ ws) = is_value w && all_values ws

-- whether the words are so many values
abbrev pub are_values : ℕ → List (List ℕ) → Bool
are_values n ws = eqb (length ws) n && all_values ws

-- whether a line is of a kind
unfoldable pub fits : Line → List ℕ → Bool
fits (names text) line = equal (single_spaced line) text
fits (values n) line = are_values n (words line)

-- the values of a line
unfoldable pub values_of : List ℕ → List Float
values_of line = map value_of (words line)

-- whether a text that line feeds cut into pieces is lines of these kinds, one after the other: each ends in a line feed, so that the last piece is empty
unfoldable pub conforms : List Line → List (List ℕ) → Bool
conforms [] [] = false
conforms [] (piece ∷ pieces) = equal piece [] && eqb (length pieces) 0
conforms (kind ∷ kinds) [] = false
conforms (kind ∷ kinds) (piece ∷ pieces) = fits kind piece && conforms kinds pieces

abbrev pub max_bytes : ℕ
max_bytes = 65536

-- how many of the pieces into which line feeds cut a file are left for its poses: all but two lines of names, the box's values, and what follows the last
-- line feed
abbrev pub pose_lines : List (List ℕ) → ℕ
pose_lines lines = length lines - 4

-- whether a file has poses of so many values with those names
unfoldable pub keeps_columns : List ℕ → ℕ → List ℕ → Bool
keeps_columns text columns bytes =
    let lines = split line_feed bytes in
    leb (length bytes) max_bytes && conforms (layout text columns (pose_lines lines)) lines

-- whether a file's first line is the fourteen names
unfoldable pub has_pads : List ℕ → Bool
has_pads bytes = fits (names padded_names) (get_or (split line_feed bytes) 0 [])

-- fourteen names, or the "old thirteen"
unfoldable pub keeps_layout : List ℕ → Bool
keeps_layout bytes = cond (has_pads bytes) (keeps_columns padded_names 14 bytes) (keeps_columns pose_names 13 bytes)

-- no file has room for more poses (`read_count`)
abbrev pub max_pose_lines : ℕ
max_pose_lines = 559

-- a file that departs from the layout
abbrev pub MoveFile-departs : MoveFile
MoveFile-departs =
    record {
      count = 0;
      bounds = replicate 6 (of_bits binary32 0);
      refusal = 11;
    }

-- what the lines of a file that keeps the layout say: after the poses and a line of names comes the box
abbrev pub MoveFile-contents : List (List ℕ) → MoveFile
MoveFile-contents lines =
    record {
      count = pose_lines lines;
      bounds = values_of (get_or lines (pose_lines lines + 2) []);
      refusal = 0;
    }

-- what a file says
unfoldable pub MoveFile-read : List ℕ → MoveFile
MoveFile-read bytes = cond (keeps_layout bytes) (MoveFile-contents (split line_feed bytes)) MoveFile-departs

-- a file's box, of the values `x0 y0 z0 x1 y1 z1`, "least corner, greatest corner"
abbrev pub MoveFile-box : List ℕ → Bounds3f
MoveFile-box bytes = Bounds3f-of_list (MoveFile-read bytes).bounds

-- the pose of a line's values: its time, the four rows of its matrix ("The bottom row is 0 0 0 1."), and its pad; document 02, "Pads for the spray": "A file
-- with the old thirteen names has pads of +0"
abbrev pub pose_of_values : List Float → List Float
pose_of_values read = take 13 read ++ (bottom_row ++ (get_or read 13 (of_bits binary32 0) ∷ []))

unfoldable pub pose_of : List ℕ → List Float
pose_of line = pose_of_values (values_of line)

-- a file's poses, those of the lines behind the first; none where it departs from the layout
unfoldable pub MoveFile-poses : List ℕ → List (List Float)
MoveFile-poses bytes =
    let lines = split line_feed bytes in
    cond (keeps_layout bytes) (map pose_of (take (pose_lines lines) (drop 1 lines))) []
