-- What has to unfold for the quaternion of a given matrix to be worked out by computing, as one group: a case says `unfolding computing`.
use Rattle.std.specs.Float.Ieee.{ne}
use Rattle.transform.specs.matrix4x4.means.Computing as matrix
use Rattle.quaternion.specs.means.Computing as quaternion
use Rattle.matrix_quaternion.specs.FromMatrix.{from_trace, largest, half_over, from_largest, Quaternion-from_matrix, Quaternion-from_transform}

unfoldable pub computing : Unit {0}
unfolding ne matrix.computing quaternion.computing from_trace largest half_over from_largest Quaternion-from_matrix Quaternion-from_transform
computing = tt
