-- The one way to write a move file: `file_text`, of any line of names and any lines of values under it; `MoveFile-text`, of poses and a box; `Chain-text`, of a
-- chain and a box; `MoveFile-written`, the written form of a file. Quotations are of document 02, "One way to write a move file", unless another is named.
-- A NaN is written as 7fc00000. Definitions only.
use Rattle.std.specs.Prelude.{ℕ, List, [], ◌∷◌, ◌++◌, map, get_or, take, Float}
use Rattle.std.specs.Float.{binary32}
use Rattle.std.specs.Float.Ieee.{of_bits}
use Rattle.motion_text.specs.bounds3.declared.Bounds3f.{Bounds3f}
use Rattle.motion_text.specs.bounds3.List.{Bounds3f-list}
use Rattle.built_poses.specs.motion_chain.Chain.{Chain}
use Rattle.built_poses.specs.Poses.{Chain-poses, Poses-lists}
use Rattle.motion_text.specs.motion_file.Text.{line_feed}
use Rattle.motion_text.specs.motion_file.Layout.{padded_names, MoveFile-read, MoveFile-poses}
use Rattle.motion_text.specs.Answer.{line, word_of, bounds_text}

-- a line of values: "lower-case digits, single spaces, line feeds, no space at a line's end"
abbrev pub values_text : List Float → List ℕ
values_text values = line (map word_of values)

-- lines of values, one after the other
unfoldable pub lines_text : List (List Float) → List ℕ
lines_text [] = []
lines_text (values ∷ lines) = values_text values ++ lines_text lines

-- a line of names, the lines of values under it, and a box
unfoldable pub file_text : List ℕ → List (List Float) → List Float → List ℕ
file_text names lines bounds = names ++ (line_feed ∷ (lines_text lines ++ bounds_text bounds))

-- what a file holds of a pose of 18 floats: its time and the upper three rows of its matrix, and its pad; document 01, "File and program": "The bottom row is
-- 0 0 0 1."; document 02, "Pads for the spray": "the writer always writes fourteen"
abbrev pub pose_columns : ℕ
pose_columns = 14

abbrev pub pose_values : List Float → List Float
pose_values pose = take 13 pose ++ (get_or pose 17 (of_bits binary32 0) ∷ [])

-- the text of poses and a box
unfoldable pub MoveFile-text : List (List Float) → List Float → List ℕ
MoveFile-text poses bounds = file_text padded_names (map pose_values poses) bounds

-- "Write any accepted chain and box back"
unfoldable pub Chain-text : Chain → Bounds3f → List ℕ
Chain-text c b = MoveFile-text (Poses-lists (Chain-poses c)) (Bounds3f-list b)

-- the written form of a file
unfoldable pub MoveFile-written : List ℕ → List ℕ
MoveFile-written bytes = MoveFile-text (MoveFile-poses bytes) (MoveFile-read bytes).bounds
