-- `mul` meets its contract: the vector by its own operator, the scalar by the float's.
use Rattle.quaternion.specs.Quaternion.{Quaternion-mul}
use Rattle.quaternion.proofs.QuaternionMulF32.mul.Goals as goal

pub returns : goal.returns
unfolding Quaternion-mul
returns c = rw c.mul.ensures
