-- `add` meets its contract: the vector by its own operator, the scalar by the float's.
use Rattle.quaternion.specs.Quaternion.{Quaternion-add}
use Rattle.quaternion.proofs.QuaternionAdd.add.Goals as goal

pub returns : goal.returns
unfolding Quaternion-add
returns c = rw c.add.ensures
