-- `scale_row` meets its contract: the formula, read in floats, is its code.
use Rattle.pose_steps.specs.Pose.{Pose-scale_row}
use borrow.Author.Rules.{rules}
use Rattle.pose_parts.proofs.scale_row.Goals as goal

pub returns : goal.returns
unfolding Pose-scale_row
returns c = record { value = search rules }
