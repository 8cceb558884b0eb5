-- What lets the finer slices of a cover be computed leanly, `Lean`: the test's numbers, and coarse slices that are accepted. Definitions only.
use Rattle.std.specs.Prelude.{ℕ, ◌^◌, Bool, true, false, cond, ◌≡◌, T}
use Rattle.bounds3.specs.declared.Bounds3f.{Bounds3f}
use Rattle.bounds3.specs.Finite.{Bounds3f-is_finite}
use Rattle.transform.specs.declared.BoundsAnswer.{BoundsAnswer}
use Rattle.transform.specs.declared.BoundsAnswer.TheVariants.{Bounds, Refused}
use Rattle.bounds_query.specs.Query.{Bounds3f-refusal}
use Rattle.pose_steps.specs.declared.PoseConstants.{PoseConstants}
use Rattle.pose_steps.specs.Pose.{is_near}
use Rattle.cover_groups.specs.pose_lean.means.Values.{Bounds3f-Values}
use Rattle.animated_transform.specs.declared.AnimatedTransform.{AnimatedTransform}
use Rattle.motion_piece.specs.motion_cover.Cover.{union_slices}
use Rattle.cover_test.specs.cover_lean.means.Test.{Pose-is_enclosable}
use Rattle.cover_test.specs.means.Values.{Parts-Values}

-- The depth of the coarse slices.
unfoldable pub coarse_depth : PoseConstants → ℕ
coarse_depth a = cond (is_near a) 2 0

abbrev pub BoundsAnswer-is_box : BoundsAnswer → Bool
BoundsAnswer-is_box (Bounds b) = true
BoundsAnswer-is_box (Refused n) = false

pub record Lean (m : AnimatedTransform) (a : PoseConstants) (b first : Bounds3f) : Type 0 where
  pub parts : T (Pose-is_enclosable a m.s0 m.s1 m.pad0 m.pad1)
  pub numbers : Parts-Values a m.s0 m.s1 m.pad0 m.pad1
  pub ordered : Bounds3f-refusal b ≡ 0
  pub corners : Bounds3f-Values b
  pub start : T (Bounds3f-is_finite first)
  pub coarse : T (BoundsAnswer-is_box (union_slices m a b (coarse_depth a) (Bounds first) (2 ^ coarse_depth a)))
