-- `half_over` meets its contract: each branch is its case of the definition.
use Rattle.matrix_quaternion.specs.FromMatrix.{half_over}
use Rattle.matrix_quaternion.proofs.half_over.Goals as goal

pub returns-then-s : goal.returns-then-s
unfolding half_over
returns-then-s c = record { value = rw c.if-s.true }

pub returns-else-s : goal.returns-else-s
unfolding half_over
returns-else-s c = record { value = rw c.if-s.false }
