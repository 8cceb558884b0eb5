-- `is_padded` meets its contract: it is the definition's test.
use mathlib.Core.Path.{refl}
use Rattle.pose_pair.specs.Pose.{Pose-is_padded}
use Rattle.pose_pair.proofs.Pose.is_padded.Goals as goal

pub returns : goal.returns
unfolding Pose-is_padded
returns c = record { value = refl }
