-- Reading a file whose poses have so many values with those names, as the code does once it has told which: `MoveFile-read_as`, `MoveFile-poses_as`. Rests on
-- `Layout.antt`, whose definitions cite nothing of it.
use Rattle.std.specs.Prelude.{ℕ, cond, List, [], map, take, drop, Float}
use Rattle.motion_file.specs.Text.{line_feed, split}
use Rattle.motion_file.specs.Layout.{pose_lines, keeps_columns, pose_of, MoveFile-departs, MoveFile-contents}
use Rattle.motion_file.specs.declared.MoveFile.{MoveFile}

unfoldable pub MoveFile-read_as : List ℕ → ℕ → List ℕ → MoveFile
MoveFile-read_as text columns bytes = cond (keeps_columns text columns bytes) (MoveFile-contents (split line_feed bytes)) MoveFile-departs

unfoldable pub MoveFile-poses_as : List ℕ → ℕ → List ℕ → List (List Float)
MoveFile-poses_as text columns bytes =
    let lines = split line_feed bytes in
    cond (keeps_columns text columns bytes) (map pose_of (take (pose_lines lines) (drop 1 lines))) []
