-- `mul` meets its contract, row by row.
use Rattle.pose_steps.specs.Pose.{Pose-mul}
use borrow.Author.Rules.{rules}
use Rattle.pose_product.proofs.mul.Goals as goal

pub returns : goal.returns
unfolding Pose-mul
returns c = record { value = rw (c.mul_row-r2.ensures.value, c.mul_row-r1.ensures.value, c.mul_row-r0.ensures.value) }
