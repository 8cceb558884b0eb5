-- `scale_enclosure` meets its contract: where the sum of the ends is finite, nothing would have been refused (`scale-tested`).
use mathlib.Core.Path.{ap}
use Rattle.pose_steps.specs.Judged.{JudgedMatrix-outcome}
use Rattle.pose_parts.proofs.Unjudged.{scale-tested}
use Rattle.pose_parts.proofs.scale_enclosure.Goals as goal

pub returns-then-is_finite : goal.returns-then-is_finite
returns-then-is_finite c = record {
  value = ap JudgedMatrix-outcome (scale-tested 0 c.args.s0 c.args.s1 c.args.dt
      c.sub_enclosure-s.ensures.value
      c.scale_unjudged-matrix.ensures.value
      c.ends_sum.ensures.value
      c.ends_sum-2.ensures.value
      c.matrix_ends_sum.ensures.value
      c.is_finite.ensures.value
      c.if-is_finite.true);
}

pub returns-else-is_finite : goal.returns-else-is_finite
returns-else-is_finite c = record { value = rw (c.scale_enclosure.ensures.value, c.matrix_point-b.ensures.value, c.matrix_point-a.ensures.value) }
