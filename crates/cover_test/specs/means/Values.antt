-- The parts of a move whose numbers are values of binary32, its pads among them. Definitions only.
use Rattle.std.specs.Prelude.{T, Float}
use Rattle.std.specs.Float.{binary32}
use Rattle.std.specs.Float.Ieee.{fits}
use Rattle.matrix4x4.specs.declared.Matrix4x4.{Matrix4x4}
use Rattle.pose_steps.specs.declared.PoseConstants.{PoseConstants}
use Rattle.cover_lean.specs.pose_lean.means.Values.{PoseConstants-Values, ScaleValues}

pub record Parts-Values (a : PoseConstants) (s0 s1 : Matrix4x4) (pad0 pad1 : Float) : Type 0 where
  pub constants : PoseConstants-Values a
  pub scale0 : ScaleValues s0
  pub scale1 : ScaleValues s1
  pub pad0-number : T (fits binary32 pad0)
  pub pad1-number : T (fits binary32 pad1)
