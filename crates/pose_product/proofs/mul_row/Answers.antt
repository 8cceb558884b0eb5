-- `mul_row` meets its contract: the formula, read in floats, is its code.
use Rattle.pose_steps.specs.Pose.{Pose-mul_row}
use borrow.Author.Rules.{rules}
use Rattle.pose_product.proofs.mul_row.Goals as goal

pub returns : goal.returns
unfolding Pose-mul_row
returns c = record { value = search rules }
