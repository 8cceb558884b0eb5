-- `rotation` meets its contract: the formula, read in floats, is its code.
use mathlib.Core.Path.{refl}
use Rattle.pose_steps.specs.Pose.{Pose-rotation}
use Rattle.pose_rotation.proofs.rotation.Goals as goal

pub returns : goal.returns
unfolding Pose-rotation
returns c = record { value = refl }
