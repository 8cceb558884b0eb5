-- `neg` meets its contract: the vector by its own operator, the scalar by the float's.
use Rattle.quaternion.specs.Quaternion.{Quaternion-neg}
use Rattle.quaternion.proofs.QuaternionNeg.neg.Goals as goal

pub returns : goal.returns
unfolding Quaternion-neg
returns c = rw c.neg.ensures
