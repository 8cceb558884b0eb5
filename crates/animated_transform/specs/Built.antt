-- A built move, and what building has judged of it: `Built`, `AnimatedTransform-Judged`. Definitions only.
use Rattle.std.specs.Prelude.{◌≡◌, Bool, not, T, Float}
use Rattle.std.specs.Float.{binary32}
use Rattle.std.specs.Float.Ieee.{fits, lt}
use Rattle.std.specs.Float.Ieee.Scale.{finite}
use Rattle.matrix4x4.specs.float32.Operators.{◌⊖◌}
use Rattle.matrix4x4.specs.rounding.Order.{◌≼◌}
use Rattle.matrix4x4.specs.declared.Matrix4x4.{Matrix4x4}
use Rattle.matrix4x4.specs.Rows.{positive_zero, Matrix4x4-to_rows}
use Rattle.matrix4x4.specs.IsFinite.{Matrix4x4-is_finite}
use Rattle.matrix4x4.specs.IsAffine.{Matrix4x4-is_affine}
use Rattle.transform.specs.declared.Transform.{Transform}
use Rattle.transform.specs.Transform.{Transform-eq}
use Rattle.quaternion.specs.Quaternion.{Quaternion-dot}
use Rattle.quaternion.specs.Slerp.{slerp_threshold}
use Rattle.quaternion.specs.IsFinite.{Quaternion-is_finite}
use Rattle.decomposition.specs.Decompose.{translation_of}
use Rattle.coefficients.specs.IsFinite.{Coefficients-is_finite}
use Rattle.pose_pair.specs.declared.Pose.{Pose}
use Rattle.pose_pair.specs.Pose.{Pose-is_binary32}
use Rattle.animated_transform.specs.declared.AnimatedTransform.{AnimatedTransform}
use Rattle.animated_transform.specs.New.{AnimatedTransform-new}

-- Of either kind, rigid or not. document 01, Cover: "A move is built .. when the call with its arguments gives no refusal";
-- "Float is 32-bit IEEE 754 throughout", which of times and pads is needed
pub record Built (m : AnimatedTransform) : Type 0 where
  pub rigid : Bool
  pub start : Pose
  pub end : Pose
  pub start-binary32 : T (Pose-is_binary32 start)
  pub end-binary32 : T (Pose-is_binary32 end)
  pub accepted : AnimatedTransform-new rigid start end ≡ record { value = m; refusal = 0 }

abbrev pub MatrixFinite : Matrix4x4 → Type 0
MatrixFinite m = T (Matrix4x4-is_finite (Matrix4x4-to_rows m))

-- A stored pose: an affine matrix and its inverse, both finite.
pub record StoredPose (t : Transform) : Type 0 where
  pub affine : T (Matrix4x4-is_affine (Matrix4x4-to_rows t.m))
  pub matrix : MatrixFinite t.m
  pub inverse : MatrixFinite t.m_inv

-- A pad that building has judged: a finite float of at least zero.
pub record Pad-Judged (pad : Float) : Type 0 where
  pub finite : T (finite pad)
  pub binary32 : T (fits binary32 pad)
  pub at-least-zero : positive_zero ≼ pad

-- What building has judged of a move, and how its yes and no are found.
pub record AnimatedTransform-Judged (m : AnimatedTransform) : Type 0 where
  pub start-time : T (finite m.start_time)
  pub end-time : T (finite m.end_time)
  pub start-binary32 : T (fits binary32 m.start_time)
  pub end-binary32 : T (fits binary32 m.end_time)
  pub times-rise : T (not (lt m.end_time m.start_time))
  pub duration : T (finite (m.end_time ⊖ m.start_time))
  pub start : StoredPose m.start_transform
  pub end : StoredPose m.end_transform
  pub animated : m.actually_animated ≡ not (Transform-eq m.start_transform m.end_transform)
  pub t0 : m.t0 ≡ translation_of (Matrix4x4-to_rows m.start_transform.m)
  pub t1 : m.t1 ≡ translation_of (Matrix4x4-to_rows m.end_transform.m)
  pub r0 : T (Quaternion-is_finite m.r0)
  pub r1 : T (Quaternion-is_finite m.r1)
  pub s0 : MatrixFinite m.s0
  pub s1 : MatrixFinite m.s1
  pub dot : T (finite (Quaternion-dot m.r0 m.r1))
  pub dot-sign : positive_zero ≼ Quaternion-dot m.r0 m.r1
  pub rotation : m.has_rotation ≡ lt (Quaternion-dot m.r0 m.r1) slerp_threshold
  pub coefficients : T (Coefficients-is_finite m.coefficients)
  pub pad0 : Pad-Judged m.pad0
  pub pad1 : Pad-Judged m.pad1
