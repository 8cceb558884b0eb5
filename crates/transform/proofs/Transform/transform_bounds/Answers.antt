-- `transform_bounds` meets its contract: the corners in the order of the definition, the last call first.
use Rattle.transform.proofs.Judged.{bounds-clauses}
use Rattle.transform.specs.TransformBounds.{Transform-transform_bounds}
use Rattle.transform.proofs.Transform.transform_bounds.Goals as goal

pub returns : goal.returns
unfolding Transform-transform_bounds
returns c = let all = bounds-clauses c.args.self
    c.args.b (rw (
      c.union_corner.ensures.value,
      c.union_corner-r6.ensures.value,
      c.union_corner-r5.ensures.value,
      c.union_corner-r4.ensures.value,
      c.union_corner-r3.ensures.value,
      c.union_corner-r2.ensures.value,
      c.union_corner-r1.ensures.value,
      c.from_moved-r0.ensures.value,
      c.transform_point.ensures.value,
    )) in record { value = all.0; judged = all.1 }
