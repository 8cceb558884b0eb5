-- `transform_point` meets its contract: the formula, read in floats, is its code.
use Rattle.pose_steps.specs.Pose.{Pose-transform_point}
use borrow.Author.Rules.{rules}
use Rattle.pose_point.proofs.transform_point.Goals as goal

pub returns : goal.returns
unfolding Pose-transform_point
returns c = record { value = search rules }
