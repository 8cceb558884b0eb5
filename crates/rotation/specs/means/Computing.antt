-- What has to unfold for the rotation of a given quaternion to be worked out by computing, as one group: a case says `unfolding computing`.
use Rattle.matrix4x4.specs.means.Computing as matrix
use Rattle.quaternion.specs.means.Computing as quaternion
use Rattle.rotation.specs.FromQuaternion.{inverse_rotation, Transform-from_quaternion}

unfoldable pub computing : Unit {0}
unfolding matrix.computing quaternion.computing inverse_rotation Transform-from_quaternion
computing = tt
