-- `normalize` meets its contract: a chain of three calls.
use Rattle.quaternion.specs.Quaternion.{Quaternion-normalize}
use Rattle.quaternion.proofs.Quaternion.normalize.Goals as goal

pub returns : goal.returns
unfolding Quaternion-normalize
returns c = record { value = rw (c.div.ensures, c.sqrt.ensures.value, c.dot.ensures.value) }
