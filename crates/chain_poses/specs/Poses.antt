-- Poses in a lent array, 18 floats each: the time, then the matrix row by row, then the pad. Definitions only.
use Rattle.std.specs.Prelude.{ℕ, ◌+◌, List, [], map, get_or, Float}
use Rattle.pose_pair.specs.declared.Pose.{Pose}
use Rattle.lent_arrays.specs.Arrays.{Pose-of_list}

unfoldable pub Poses-of_lists : List (List Float) → List Pose
Poses-of_lists lists = map Pose-of_list lists

-- The pair whose first pose is at place i.
abbrev pub Poses-pair_at : List (List Float) → ℕ → Pose × Pose
Poses-pair_at lists i = (Pose-of_list (get_or lists i []), Pose-of_list (get_or lists (i + 1) []))
