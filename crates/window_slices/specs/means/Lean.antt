-- What lets the finer pieces of a window's share of dt be computed leanly, `Lean`: the test's numbers, a share from 0 to 1, and coarse pieces that are
-- accepted. Definitions only.
use Rattle.std.specs.Prelude.{T, Float, ◌≡◌}
use Rattle.bounds3.specs.declared.Bounds3f.{Bounds3f}
use Rattle.bounds3.specs.Finite.{Bounds3f-is_finite}
use Rattle.matrix4x4.specs.declared.Matrix4x4.{Matrix4x4}
use Rattle.transform.specs.declared.BoundsAnswer.TheVariants.{Bounds}
use Rattle.bounds_query.specs.Query.{Bounds3f-refusal}
use Rattle.interval.specs.declared.Interval.{Interval}
use Rattle.dt_pieces.specs.dt_share.means.Part.{UnitPart}
use Rattle.pose_steps.specs.declared.PoseConstants.{PoseConstants}
use Rattle.cover_test.specs.pose_lean.means.Values.{Bounds3f-Values}
use Rattle.cover_test.specs.cover_lean.means.Test.{Pose-is_enclosable}
use Rattle.cover_test.specs.means.Values.{Parts-Values}
use Rattle.cover_slices.specs.means.Lean.{coarse_depth, BoundsAnswer-is_box}
use Rattle.dt_pieces.specs.means.Pieces.{piece_box, union_pieces}

pub record Lean (a : PoseConstants) (s0 s1 : Matrix4x4) (pad0 pad1 : Float) (b : Bounds3f) (dt : Interval) (u : Bounds3f) : Type 0 where
  pub parts : T (Pose-is_enclosable a s0 s1 pad0 pad1)
  pub numbers : Parts-Values a s0 s1 pad0 pad1
  pub ordered : Bounds3f-refusal b ≡ 0
  pub corners : Bounds3f-Values b
  pub start : T (Bounds3f-is_finite u)
  pub share : UnitPart dt
  pub coarse : T (BoundsAnswer-is_box (union_pieces (piece_box a s0 s1 pad0 pad1 b) (Bounds u) (coarse_depth a) dt))
