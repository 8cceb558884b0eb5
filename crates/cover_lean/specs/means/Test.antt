-- The test of a move's parts, `Pose-is_enclosable`: finite numbers, an angle from 0 to a quarter turn, pads of at least zero. Definitions only.
-- `tested-enclosable` says that what passes it is enclosable.
use Rattle.std.specs.Prelude.{Bool, ◌&&◌, Float}
use Rattle.std.specs.Float.Ieee.{le}
use Rattle.std.specs.Float.Ieee.Scale.{finite}
use Rattle.dt_share.specs.float32.Operators.{positive_zero}
use Rattle.dt_share.specs.trig.Range.{quarter_turn_float}
use Rattle.pose_lean.specs.vector3.declared.Vector3f.{Vector3f}
use Rattle.pose_lean.specs.quaternion.IsFinite.{Quaternion-is_finite}
use Rattle.pose_lean.specs.matrix4x4.declared.Matrix4x4.{Matrix4x4}
use Rattle.pose_lean.specs.matrix4x4.Rows.{Row, col}
use Rattle.pose_lean.specs.pose_steps.declared.PoseConstants.{PoseConstants}

unfoldable pub Vector3f-is_finite : Vector3f → Bool
Vector3f-is_finite v = finite v.x && finite v.y && finite v.z

-- The three entries of a row of S that are read.
unfoldable pub is_finite_front : Row → Bool
is_finite_front r = finite (col r 0) && finite (col r 1) && finite (col r 2)

unfoldable pub is_finite_scale : Matrix4x4 → Bool
is_finite_scale s = is_finite_front s.r0 && is_finite_front s.r1 && is_finite_front s.r2

unfoldable pub is_quarter_angle : Float → Bool
is_quarter_angle theta = le positive_zero theta && le theta quarter_turn_float

unfoldable pub is_pad : Float → Bool
is_pad pad = finite pad && le positive_zero pad

unfoldable pub PoseConstants-is_valid : PoseConstants → Bool
PoseConstants-is_valid a =
    Vector3f-is_finite a.t0 && Vector3f-is_finite a.t1 && Quaternion-is_finite a.r0 && Quaternion-is_finite a.r1
    && finite a.cos_theta && is_quarter_angle a.theta

unfoldable pub Pose-is_enclosable : PoseConstants → Matrix4x4 → Matrix4x4 → Float → Float → Bool
Pose-is_enclosable a s0 s1 pad0 pad1 = PoseConstants-is_valid a && is_finite_scale s0 && is_finite_scale s1 && is_pad pad0 && is_pad pad1
