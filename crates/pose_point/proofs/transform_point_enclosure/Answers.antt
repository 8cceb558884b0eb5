-- `transform_point_enclosure` meets its contract: where the sum of all ends is finite, nothing would have been refused (`transform-point-tested`).
use mathlib.Core.Path.{ap}
use Rattle.pose_steps.specs.Judged.{JudgedVector-outcome}
use Rattle.pose_point.proofs.Unjudged.{transform-point-tested}
use Rattle.pose_point.proofs.transform_point_enclosure.Goals as goal

pub returns-then-is_finite : goal.returns-then-is_finite
returns-then-is_finite c = record {
  value = ap JudgedVector-outcome (transform-point-tested 0 c.args.a c.args.p
      c.transform_point_unjudged-vector.ensures.value
      c.matrix_ends_sum.ensures.value
      c.vector_ends_sum.ensures.value
      c.vector_ends_sum-2.ensures.value
      c.is_finite.ensures.value
      c.if-is_finite.true);
}

pub returns-else-is_finite : goal.returns-else-is_finite
returns-else-is_finite c = record { value = c.transform_point_enclosure.ensures.value }
