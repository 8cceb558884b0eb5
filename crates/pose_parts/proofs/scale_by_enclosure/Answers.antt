-- `scale_by_enclosure` meets its contract: the kind chooses the case.
use Rattle.pose_steps.specs.Enclose.{enclose_scale_by}
use Rattle.pose_parts.proofs.scale_by_enclosure.Goals as goal

pub returns-then-rigid : goal.returns-then-rigid
unfolding enclose_scale_by
returns-then-rigid c = record { value = rw c.if-rigid.true }

pub returns-else-rigid : goal.returns-else-rigid
unfolding enclose_scale_by
returns-else-rigid c = record { value = rw c.if-rigid.false c.scale_enclosure.ensures.value }
