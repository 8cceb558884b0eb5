-- What has to unfold for two given poses to be judged by computing, as one group: a case says `unfolding computing`.
use Rattle.std.specs.Float.Ieee.{sub, lt, le}
use Rattle.matrix4x4.specs.means.Computing as matrix
use Rattle.rigid_pose.specs.means.Computing as rigid
use Rattle.pose_pair.specs.Pose.{Pose-is_finite, Pose-is_affine, Pose-is_padded, times_refusal, poses_refusal, Pose-kind_number}

unfoldable pub computing : Unit {0}
unfolding sub lt le matrix.computing rigid.computing Pose-is_finite Pose-is_affine Pose-is_padded times_refusal poses_refusal Pose-kind_number
computing = tt
