-- `dot` meets its contract: the vectors' dot product, then the scalars' product.
use Rattle.quaternion.specs.Quaternion.{Quaternion-dot}
use Rattle.quaternion.proofs.Quaternion.dot.Goals as goal

pub returns : goal.returns
unfolding Quaternion-dot
returns c = record { value = rw c.dot.ensures.value }
