-- `slerp` meets its contract: cos_theta chooses the case.
use Rattle.pose_steps.specs.Pose.{Pose-slerp, slerp_by}
use borrow.Author.Rules.{rules}
use Rattle.pose_slerp.proofs.slerp.Goals as goal

pub returns-then-a : goal.returns-then-a
unfolding Pose-slerp slerp_by
returns-then-a c = record { value = rw (c.if-a.true, c.slerp_near.ensures.value) }

pub returns-else-a : goal.returns-else-a
unfolding Pose-slerp slerp_by
returns-else-a c = record { value = rw (c.if-a.false, c.slerp_far.ensures.value) }
