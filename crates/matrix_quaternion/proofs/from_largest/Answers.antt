-- `from_largest` meets its contract: its operations are the definition's, about one root and one quotient.
use Rattle.matrix_quaternion.specs.FromMatrix.{from_largest}
use Rattle.matrix_quaternion.proofs.from_largest.Goals as goal

pub returns : goal.returns
unfolding from_largest
returns c = record { value = rw (c.half_over-r.ensures.value, c.sqrt-s.ensures.value) }
