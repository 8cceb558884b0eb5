-- What the building of a move asks of two poses before it works anything: refusals 1, 2, 16 and 3, in this order;
-- and what a rigid one asks of each, 17 and 18. Definitions only.
use Rattle.std.specs.Prelude.{ℕ, Bool, true, false, not, ◌&&◌, ◌||◌, cond, Float}
use Rattle.std.specs.Float.{binary32}
use Rattle.std.specs.Float.Ieee.{fits, lt, le}
use Rattle.std.specs.Float.Ieee.Scale.{finite}
use Rattle.float32.specs.Operators.{◌⊖◌}
use Rattle.matrix4x4.specs.Rows.{positive_zero, Matrix4x4-to_rows}
use Rattle.matrix4x4.specs.IsFinite.{Matrix4x4-is_finite}
use Rattle.matrix4x4.specs.IsAffine.{Matrix4x4-is_affine}
use Rattle.rigid_pose.specs.Rigid.{Matrix4x4-rigid_number}
use Rattle.pose_pair.specs.declared.Pose.{Pose}

-- document 01, Refusals, 1: "a matrix entry or time is not finite"; document 02, "Pads for the spray": and a pad "that isn't finite is 1"
unfoldable pub Pose-is_finite : Pose → Bool
Pose-is_finite p = finite p.time && Matrix4x4-is_finite (Matrix4x4-to_rows p.m) && finite p.pad

-- document 01: "Float is 32-bit IEEE 754 throughout", which of a pose's time and pad is needed
abbrev pub Pose-is_binary32 : Pose → Bool
Pose-is_binary32 p = fits binary32 p.time && fits binary32 p.pad

-- document 01, Refusals, 2: "a bottom row isn't 0, 0, 0, 1 (either zero)"
unfoldable pub Pose-is_affine : Pose → Bool
Pose-is_affine p = Matrix4x4-is_affine (Matrix4x4-to_rows p.m)

-- document 02, "Pads for the spray": "a pad, a float of at least zero"; -0 is one
unfoldable pub Pose-is_padded : Pose → Bool
Pose-is_padded p = le positive_zero p.pad

-- document 01, Refusals, 3: "the end time is below the start time, or end − start is not finite"
unfoldable pub times_refusal : Float → Float → ℕ
times_refusal start end = cond (lt end start || not (finite (end ⊖ start))) 3 0

-- document 02, "Pads for the spray": 16 is "judged for each chain or move just after 2"
unfoldable pub poses_refusal : Pose → Pose → ℕ
poses_refusal start end =
    cond (not (Pose-is_finite start && Pose-is_finite end)) 1
    (cond (not (Pose-is_affine start && Pose-is_affine end)) 2
    (cond (not (Pose-is_padded start && Pose-is_padded end)) 16
    (times_refusal start.time end.time)))

-- document 02, "Rigid booms": "A pose that scales or shears is 17, then a determinant of zero or below is 18"; of a plain move nothing is asked
unfoldable pub Pose-kind_number : Bool → Pose → ℕ
Pose-kind_number true p = Matrix4x4-rigid_number (Matrix4x4-to_rows p.m)
Pose-kind_number false p = 0
