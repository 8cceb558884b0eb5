-- `second_quaternion` meets its contract: cos_theta chooses the case.
use Rattle.lanes_rotation.specs.pose_lean.means.Lean.{second_by}
use Rattle.cover_groups.proofs.second_quaternion.Goals as goal

pub returns-then-a : goal.returns-then-a
unfolding second_by
returns-then-a c = record { value = rw c.if-a.true }

pub returns-else-a : goal.returns-else-a
unfolding second_by
returns-else-a c = record { value = rw (c.if-a.false, c.perpendicular_to-perp.ensures.value) }
