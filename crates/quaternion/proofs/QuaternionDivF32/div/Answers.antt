-- `div` meets its contract: the vector by its own operator, the scalar by the float's.
use Rattle.quaternion.specs.Quaternion.{Quaternion-div}
use Rattle.quaternion.proofs.QuaternionDivF32.div.Goals as goal

pub returns : goal.returns
unfolding Quaternion-div
returns c = rw c.div.ensures
