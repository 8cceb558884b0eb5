-- `is_affine` meets its contract: it is the test of the matrix.
use Rattle.pose_pair.specs.Pose.{Pose-is_affine}
use Rattle.pose_pair.proofs.Pose.is_affine.Goals as goal

pub returns : goal.returns
unfolding Pose-is_affine
returns c = record { value = cc }
