-- `translation` meets its contract: the formula, read in floats, is its three lines.
use mathlib.Core.Path.{refl}
use Rattle.pose_steps.specs.Pose.{Pose-translation}
use Rattle.pose_parts.proofs.translation.Goals as goal

pub returns : goal.returns
unfolding Pose-translation
returns c = record { value = refl }
