-- `quaternion_from_transform` meets its contract: that of the matrix half.
use Rattle.matrix_quaternion.specs.FromMatrix.{Quaternion-from_transform}
use Rattle.matrix_quaternion.proofs.quaternion_from_transform.Goals as goal

pub returns : goal.returns
unfolding Quaternion-from_transform
returns c = record { value = rw (c.quaternion_from_matrix.ensures.value, c.to_rows.ensures.value) }
