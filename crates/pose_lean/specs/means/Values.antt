-- The parts of a move and a box whose numbers are values of binary32, as every f32 is. Definitions only.
use Rattle.std.specs.Prelude.{List, [], ◌∷◌, T, Float}
use Rattle.std.specs.Float.{binary32}
use Rattle.std.specs.Float.Ieee.{fits}
use Rattle.pose_slerp.specs.matrix4x4.declared.Matrix4x4.{Matrix4x4}
use Rattle.pose_slerp.specs.bounds3.declared.Bounds3f.{Bounds3f}
use Rattle.pose_slerp.specs.bounds3.List.{Point3f-list}
use Rattle.pose_slerp.specs.pose_steps.declared.PoseConstants.{PoseConstants}
use Rattle.pose_slerp.specs.pose_steps.Pose.{Vector3f-list, Quaternion-list, three}

abbrev pub AllValues : List Float → Type 0
AllValues [] = Unit {0}
AllValues (x ∷ l) = T (fits binary32 x) × AllValues l

pub record PoseConstants-Values (a : PoseConstants) : Type 0 where
  pub t0 : AllValues (Vector3f-list a.t0)
  pub t1 : AllValues (Vector3f-list a.t1)
  pub r0 : AllValues (Quaternion-list a.r0)
  pub r1 : AllValues (Quaternion-list a.r1)
  pub cos_theta : T (fits binary32 a.cos_theta)
  pub theta : T (fits binary32 a.theta)

-- The nine entries of S that are read.
pub record ScaleValues (s : Matrix4x4) : Type 0 where
  pub r0 : AllValues (three s.r0)
  pub r1 : AllValues (three s.r1)
  pub r2 : AllValues (three s.r2)

pub record PoseValues (a : PoseConstants) (s0 s1 : Matrix4x4) : Type 0 where
  pub constants : PoseConstants-Values a
  pub scale0 : ScaleValues s0
  pub scale1 : ScaleValues s1

pub record Bounds3f-Values (b : Bounds3f) : Type 0 where
  pub low : AllValues (Point3f-list b.p_min)
  pub high : AllValues (Point3f-list b.p_max)
