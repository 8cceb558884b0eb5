-- `sub` meets its contract: the vector by its own operator, the scalar by the float's.
use Rattle.quaternion.specs.Quaternion.{Quaternion-sub}
use Rattle.quaternion.proofs.QuaternionSub.sub.Goals as goal

pub returns : goal.returns
unfolding Quaternion-sub
returns c = rw c.sub.ensures
