-- A piece of a cover computed leanly: no interval is judged, and there is no term by a constant 0 or 1. `LeanPose-over` is the pose over an interval of
-- dt, `LeanPose-vector` a box that it moves, and `Lean-box` both. Definitions only: `piece-lean` says where they are the cover's. Terms stand in the
-- order of the stages of `pose_steps`, so that code in lanes is these lane by lane.
use Rattle.std.specs.Prelude.{Bool, true, false, Float}
use Rattle.formula_lean.specs.float32.Operators.{◌⊕◌, ◌⊖◌, ◌⊗◌, one, two}
use Rattle.formula_lean.specs.trig.SinCos.{sin, cos}
use Rattle.pose_slerp.specs.vector3.declared.Vector3f.{Vector3f}
use Rattle.pose_slerp.specs.quaternion.declared.Quaternion.{Quaternion}
use Rattle.pose_slerp.specs.matrix4x4.declared.Matrix4x4.{Matrix4x4}
use Rattle.pose_slerp.specs.matrix4x4.Rows.{Row, col}
use Rattle.pose_slerp.specs.bounds3.declared.Bounds3f.{Bounds3f}
use Rattle.formula_lean.specs.interval.declared.Interval.{Interval}
use Rattle.formula_lean.specs.interval.Interval.{Interval-point}
use Rattle.formula_lean.specs.interval.Enclosure.{Interval-add_enclosure, Interval-sub_enclosure, Interval-sqrt_enclosure}
use Rattle.formula_lean.specs.interval_unjudged.means.Ordered.{Interval-mul_ordered, Interval-div_ordered}
use Rattle.pose_slerp.specs.pose_steps.declared.PoseConstants.{PoseConstants}
use Rattle.pose_slerp.specs.pose_steps.declared.IntervalVector.{IntervalVector}
use Rattle.pose_slerp.specs.pose_steps.declared.IntervalQuaternion.{IntervalQuaternion}
use Rattle.pose_slerp.specs.pose_steps.Pose.{is_near}
use Rattle.pose_slerp.specs.pose_steps.Enclose.{Bounds3f-intervals, IntervalVector-bounds}
use Rattle.pose_slerp.specs.means.Unjudged.{Perpendicular-of}

infixl 75 ◌⊞◌
infixl 80 ◌⊠◌
abbrev ◌⊞◌ : Interval → Interval → Interval
◌⊞◌ X Y = Interval-add_enclosure X Y

abbrev ◌⊠◌ : Interval → Interval → Interval
◌⊠◌ X Y = Interval-mul_ordered X Y

-- Three rows of three: the linear part of an affine matrix.
pub record LinearPart : Type 0 where
  pub r0 : IntervalVector
  pub r1 : IntervalVector
  pub r2 : IntervalVector

-- The linear part, the translation and the pad over an interval of dt.
pub record LeanPose : Type 0 where
  pub linear : LinearPart
  pub translation : IntervalVector
  pub pad : Float

-- ---- numbers by intervals
-- x by U and y by T, the number first, as in `translation` and `slerp`.
unfoldable pub mix : Float → Float → Interval → Interval → Interval
mix x y U T = Interval-point x ⊠ U ⊞ Interval-point y ⊠ T

-- The same, the interval first, as in `lerp`.
unfoldable pub lerp : Float → Float → Interval → Interval → Interval
lerp x y U T = U ⊠ Interval-point x ⊞ T ⊠ Interval-point y

unfoldable pub one_minus : Interval → Interval
one_minus T = Interval-sub_enclosure (Interval-point one) T

-- ---- the rotation over dt
unfoldable pub turned : Quaternion → Quaternion → Interval → Interval → IntervalQuaternion
turned q p C S =
    record { x = mix q.v.x p.v.x C S; y = mix q.v.y p.v.y C S; z = mix q.v.z p.v.z C S; w = mix q.w p.w C S }

unfoldable pub length : IntervalQuaternion → Interval
length q = Interval-sqrt_enclosure (q.x ⊠ q.x ⊞ q.y ⊠ q.y ⊞ q.z ⊠ q.z ⊞ q.w ⊠ q.w)

unfoldable pub over : IntervalQuaternion → Interval → IntervalQuaternion
over q n = record { x = Interval-div_ordered q.x n; y = Interval-div_ordered q.y n; z = Interval-div_ordered q.z n; w = Interval-div_ordered q.w n }

unfoldable pub normalized : IntervalQuaternion → IntervalQuaternion
normalized q = over q (length q)

unfoldable pub near : Quaternion → Quaternion → Interval → IntervalQuaternion
near q p T = normalized (turned q p (one_minus T) T)

-- A function at the two borders of theta T, in the order of the borders: its values need not be in order.
unfoldable pub at_borders : (Float → Float) → Float → Interval → Interval
at_borders f theta T = record { low = f (theta ⊗ T.low); high = f (theta ⊗ T.high) }

-- Near or far slerp, C and S being cosine and sine at the borders. The second quaternion is the second pose's where slerp is near, and slerp's
-- perpendicular otherwise.
unfoldable pub slerp_by : Bool → Quaternion → Quaternion → Interval → Interval → Interval → IntervalQuaternion
slerp_by true q p T C S = near q p T
slerp_by false q p T C S = turned q p C S

unfoldable pub second_by : Bool → PoseConstants → Quaternion
second_by true a = a.r1
second_by false a = (Perpendicular-of a.r0 a.r1 a.cos_theta).q

unfoldable pub Lean-slerp : PoseConstants → Interval → IntervalQuaternion
Lean-slerp a T = slerp_by (is_near a) a.r0 (second_by (is_near a) a) T (at_borders cos a.theta T) (at_borders sin a.theta T)

-- ---- the matrix of a quaternion
-- Twice an interval, by both ends as they stand.
abbrev pub twice : Interval → Interval
twice X = record { low = two ⊗ X.low; high = two ⊗ X.high }

unfoldable pub diagonal : Interval → Interval → Interval
diagonal X Y = Interval-sub_enclosure (Interval-point one) (twice (X ⊞ Y))

unfoldable pub twice_sum : Interval → Interval → Interval
twice_sum X Y = twice (X ⊞ Y)

unfoldable pub twice_difference : Interval → Interval → Interval
twice_difference X Y = twice (Interval-sub_enclosure X Y)

unfoldable pub rotation : IntervalQuaternion → LinearPart
rotation q =
    let xx = q.x ⊠ q.x in
    let yy = q.y ⊠ q.y in
    let zz = q.z ⊠ q.z in
    let xy = q.x ⊠ q.y in
    let xz = q.x ⊠ q.z in
    let yz = q.y ⊠ q.z in
    let wx = q.x ⊠ q.w in
    let wy = q.y ⊠ q.w in
    let wz = q.z ⊠ q.w in
    record {
      r0 = record { x = diagonal yy zz; y = twice_difference xy wz; z = twice_sum xz wy };
      r1 = record { x = twice_sum xy wz; y = diagonal xx zz; z = twice_difference yz wx };
      r2 = record { x = twice_difference xz wy; y = twice_sum yz wx; z = diagonal xx yy };
    }

-- ---- translation and scale
unfoldable pub shifted : Vector3f → Vector3f → Interval → Interval → IntervalVector
shifted a b U T = record { x = mix a.x b.x U T; y = mix a.y b.y U T; z = mix a.z b.z U T }

unfoldable pub scale_row : Row → Row → Interval → Interval → IntervalVector
scale_row r s U T = record { x = lerp (col r 0) (col s 0) U T; y = lerp (col r 1) (col s 1) U T; z = lerp (col r 2) (col s 2) U T }

unfoldable pub scale : Matrix4x4 → Matrix4x4 → Interval → Interval → LinearPart
scale s0 s1 U T = record { r0 = scale_row s0.r0 s1.r0 U T; r1 = scale_row s0.r1 s1.r1 U T; r2 = scale_row s0.r2 s1.r2 U T }

unfoldable pub dot : IntervalVector → Interval → Interval → Interval → Interval
dot a X Y Z = a.x ⊠ X ⊞ a.y ⊠ Y ⊞ a.z ⊠ Z

-- A row times S.
unfoldable pub row_by : IntervalVector → LinearPart → IntervalVector
row_by a s =
    record {
      x = dot a s.r0.x s.r1.x s.r2.x;
      y = dot a s.r0.y s.r1.y s.r2.y;
      z = dot a s.r0.z s.r1.z s.r2.z;
    }

unfoldable pub product : LinearPart → LinearPart → LinearPart
product m s = record { r0 = row_by m.r0 s; r1 = row_by m.r1 s; r2 = row_by m.r2 s }

-- A rigid move has no scale.
unfoldable pub linear_by : Bool → LinearPart → Matrix4x4 → Matrix4x4 → Interval → Interval → LinearPart
linear_by true m s0 s1 U T = m
linear_by false m s0 s1 U T = product m (scale s0 s1 U T)

-- ---- the pose
-- The high end of the pad's interval.
unfoldable pub pad_high : Float → Float → Interval → Interval → Float
pad_high pad0 pad1 U T = (lerp pad0 pad1 U T).high

unfoldable pub LeanPose-over : PoseConstants → Matrix4x4 → Matrix4x4 → Float → Float → Interval → LeanPose
LeanPose-over a s0 s1 pad0 pad1 T =
    let U = one_minus T in
    record {
      linear = linear_by a.rigid (rotation (Lean-slerp a T)) s0 s1 U T;
      translation = shifted a.t0 a.t1 U T;
      pad = pad_high pad0 pad1 U T;
    }

-- ---- the box
unfoldable pub moved : IntervalVector → IntervalVector → Interval → Interval
moved p r t = p.x ⊠ r.x ⊞ p.y ⊠ r.y ⊞ p.z ⊠ r.z ⊞ t

unfoldable pub moved_by : IntervalVector → LinearPart → IntervalVector → IntervalVector
moved_by p m t = record { x = moved p m.r0 t.x; y = moved p m.r1 t.y; z = moved p m.r2 t.z }

unfoldable pub Interval-grown : Float → Interval → Interval
Interval-grown pad X = record { low = X.low ⊖ pad; high = X.high ⊕ pad }

unfoldable pub IntervalVector-grown : Float → IntervalVector → IntervalVector
IntervalVector-grown pad v = record { x = Interval-grown pad v.x; y = Interval-grown pad v.y; z = Interval-grown pad v.z }

-- The box of points p moved and grown by the pad, as three intervals.
unfoldable pub LeanPose-vector : LeanPose → IntervalVector → IntervalVector
LeanPose-vector pose p = IntervalVector-grown pose.pad (moved_by p pose.linear pose.translation)

unfoldable pub LeanPose-box : LeanPose → Bounds3f → Bounds3f
LeanPose-box pose b = IntervalVector-bounds (LeanPose-vector pose (Bounds3f-intervals b))

-- The piece of a move over an interval of dt.
unfoldable pub Lean-box : PoseConstants → Matrix4x4 → Matrix4x4 → Float → Float → Interval → Bounds3f → Bounds3f
Lean-box a s0 s1 pad0 pad1 T b = LeanPose-box (LeanPose-over a s0 s1 pad0 pad1 T) b
