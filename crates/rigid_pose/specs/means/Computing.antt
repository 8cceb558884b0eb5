-- What has to unfold for a given matrix to be judged by computing, as one group: a case says `unfolding computing`.
use Rattle.std.specs.Float.Ieee.{sub, lt, le}
use Rattle.float32.specs.Abs.{abs}
use Rattle.transform.specs.means.Computing as transform
use Rattle.rigid_pose.specs.Rigid.{near_zero, Matrix4x4-has_shear, Matrix4x4-rigid_number}

unfoldable pub computing : Unit {0}
unfolding sub lt le abs transform.computing near_zero Matrix4x4-has_shear Matrix4x4-rigid_number
computing = tt
