-- `moved_vector` meets its contract: a sum for each coordinate.
use Rattle.transform.specs.TransformVector.{moved_vector}
use Rattle.transform.proofs.moved_vector.Goals as goal

pub returns : goal.returns
unfolding moved_vector
returns c = record { value = rw (c.mul_vector.ensures.value, c.mul_vector-2.ensures.value, c.mul_vector-3.ensures.value) }
