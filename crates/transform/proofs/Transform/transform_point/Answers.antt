-- `transform_point` meets its contract: the moved point where it is finite, and the number 5 otherwise.
use Rattle.transform.proofs.Judged.{point-clauses}
use Rattle.transform.specs.TransformPoint.{Transform-transform_point, PointAnswer-judged}
use Rattle.transform.proofs.Transform.transform_point.Goals as goal

pub returns-then-is_finite : goal.returns-then-is_finite
unfolding Transform-transform_point PointAnswer-judged
returns-then-is_finite c = let all = point-clauses c.args.self c.args.p (rw (
  rw (
    c.is_finite.ensures.value,
    c.moved_point-q.ensures.value,
  ) at c.if-is_finite.true,
  c.moved_point-q.ensures.value,
)) in record { value = all.0; judged = all.1 }

pub returns-else-is_finite : goal.returns-else-is_finite
unfolding Transform-transform_point PointAnswer-judged
returns-else-is_finite c = let all = point-clauses c.args.self c.args.p (rw (rw (
  c.is_finite.ensures.value,
  c.moved_point-q.ensures.value,
) at c.if-is_finite.false)) in record { value = all.0; judged = all.1 }
