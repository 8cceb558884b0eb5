-- `scale` meets its contract, row by row.
use Rattle.pose_steps.specs.Pose.{Pose-scale}
use borrow.Author.Rules.{rules}
use Rattle.pose_parts.proofs.scale.Goals as goal

pub returns : goal.returns
unfolding Pose-scale
returns c = record { value = cc }
