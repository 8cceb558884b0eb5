-- `transform_from_quaternion` meets its contract: the inverse half, and its transpose.
use Rattle.rotation.specs.FromQuaternion.{Transform-from_quaternion}
use Rattle.rotation.proofs.transform_from_quaternion.Goals as goal

pub returns : goal.returns
unfolding Transform-from_quaternion
returns c = record { value = rw (c.from_matrices.ensures.value, c.transpose.ensures.value, c.inverse_rotation-m.ensures.value) }
