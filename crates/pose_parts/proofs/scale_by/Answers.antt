-- `scale_by` meets its contract: the kind chooses the case.
use Rattle.pose_steps.specs.Pose.{Pose-scale_by}
use Rattle.pose_parts.proofs.scale_by.Goals as goal

pub returns-then-rigid : goal.returns-then-rigid
unfolding Pose-scale_by
returns-then-rigid c = record { value = rw c.if-rigid.true }

pub returns-else-rigid : goal.returns-else-rigid
unfolding Pose-scale_by
returns-else-rigid c = record { value = rw c.if-rigid.false c.scale.ensures.value }
