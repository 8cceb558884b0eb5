-- `from_trace` meets its contract: its operations are the definition's, about one root.
use Rattle.matrix_quaternion.specs.FromMatrix.{from_trace}
use Rattle.matrix_quaternion.proofs.from_trace.Goals as goal

pub returns : goal.returns
unfolding from_trace
returns c = record { value = rw c.sqrt-s.ensures.value }
