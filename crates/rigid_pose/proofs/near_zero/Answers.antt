-- `near_zero` meets its contract: it is the definition's test.
use Rattle.rigid_pose.specs.Rigid.{near_zero}
use Rattle.rigid_pose.proofs.near_zero.Goals as goal

pub returns : goal.returns
unfolding near_zero
returns c = record { value = rw c.abs.ensures.value }
