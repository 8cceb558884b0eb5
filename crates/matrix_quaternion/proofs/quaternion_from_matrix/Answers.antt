-- `quaternion_from_matrix` meets its contract: the trace's sign, then the largest of the diagonal, choose the case.
use Rattle.matrix_quaternion.specs.FromMatrix.{Quaternion-from_matrix}
use Rattle.matrix_quaternion.proofs.quaternion_from_matrix.Goals as goal

pub returns-then-trace : goal.returns-then-trace
unfolding Quaternion-from_matrix
returns-then-trace c = record { value = rw (c.if-trace.true, c.from_trace.ensures.value) }

pub returns : goal.returns
unfolding Quaternion-from_matrix
returns c = record {
  value = rw (
    c.if-trace.false,
    c.from_largest.ensures.value,
    c.nxt-k.ensures.value,
    c.nxt-j.ensures.value,
    c.largest-i.ensures.value,
  );
}
