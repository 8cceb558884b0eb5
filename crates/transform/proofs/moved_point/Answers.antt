-- `moved_point` meets its contract: the four sums, then the case that wp chose.
use Rattle.transform.specs.TransformPoint.{moved_point}
use Rattle.transform.proofs.moved_point.Goals as goal

pub returns-then-wp : goal.returns-then-wp
unfolding moved_point
returns-then-wp c = record {
  value = rw (
    rw c.mul_point-wp.ensures.value at c.if-wp.true,
    c.mul_point.ensures.value,
    c.mul_point-2.ensures.value,
    c.mul_point-3.ensures.value,
  );
}

pub returns-else-wp : goal.returns-else-wp
unfolding moved_point
returns-else-wp c = record {
  value = rw (
    rw c.mul_point-wp.ensures.value at c.if-wp.false,
    c.div.ensures,
    c.mul_point.ensures.value,
    c.mul_point-2.ensures.value,
    c.mul_point-3.ensures.value,
    c.mul_point-wp.ensures.value,
  );
}
