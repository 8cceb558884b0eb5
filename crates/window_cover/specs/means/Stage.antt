-- The three passes over a chain's moves in which a window's cover is worked, told by a number, so that one loop does them all.
-- What the code does: no promise cites it.
use Rattle.std.specs.Prelude.{ℕ, Bool, cond, List, eqb}
use Rattle.bounds3.specs.declared.Bounds3f.{Bounds3f}
use Rattle.transform.specs.declared.BoundsAnswer.{BoundsAnswer}
use Rattle.animated_transform.specs.declared.AnimatedTransform.{AnimatedTransform}
use Rattle.window_times.specs.declared.Window.{Window}
use Rattle.chain_window.specs.Cover.{slice_boxes, end_pose_boxes, equal_pose_boxes}

unfoldable pub stage_boxes : Bounds3f → ℕ → Window → ℕ → Bool → Bool → AnimatedTransform → List BoundsAnswer
stage_boxes b d w k first last m = cond (eqb k 0) (slice_boxes b d w m) (cond (eqb k 1) (end_pose_boxes b w last m) (equal_pose_boxes b w first last m))
