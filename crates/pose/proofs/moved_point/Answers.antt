-- `moved_point` meets its contract: one test of the pose's number and of the point.
use Rattle.pose_steps.specs.Pose.{Pose-moved_point}
use borrow.Author.Rules.{rules}
use Rattle.pose.proofs.moved_point.Goals as goal

pub returns-then-pose-is_finite : goal.returns-then-pose-is_finite
unfolding Pose-moved_point
returns-then-pose-is_finite c = record { value = rw (← c.matrix-pose.ensures.value, ← c.transform_point-q.ensures.value, ← c.is_finite.ensures.value, c.if-pose-is_finite.true) }

pub returns-else-pose-is_finite : goal.returns-else-pose-is_finite
unfolding Pose-moved_point
returns-else-pose-is_finite c = record { value = rw (← c.matrix-pose.ensures.value, ← c.transform_point-q.ensures.value, ← c.is_finite.ensures.value, c.if-pose-is_finite.false) }
