-- `slerp_enclosure` meets its contract: cos_theta chooses the case.
use Rattle.pose_steps.specs.Enclose.{Pose-enclose_slerp, enclose_slerp_by}
use borrow.Author.Rules.{rules}
use Rattle.motion_piece.proofs.slerp_enclosure.Goals as goal

pub returns-then-a : goal.returns-then-a
unfolding Pose-enclose_slerp enclose_slerp_by
returns-then-a c = record { value = rw (c.if-a.true, c.slerp_near_enclosure.ensures.value) }

pub returns-else-a : goal.returns-else-a
unfolding Pose-enclose_slerp enclose_slerp_by
returns-else-a c = record { value = rw (c.if-a.false, c.slerp_far_enclosure.ensures.value) }
