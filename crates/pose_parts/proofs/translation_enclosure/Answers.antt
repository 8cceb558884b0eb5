-- `translation_enclosure` meets its contract: where the sum of the ends is finite, nothing would have been refused (`translation-tested`).
use mathlib.Core.Path.{ap}
use Rattle.pose_steps.specs.Judged.{JudgedVector-outcome}
use Rattle.pose_parts.proofs.Unjudged.{translation-tested}
use Rattle.pose_parts.proofs.translation_enclosure.Goals as goal

pub returns-then-is_finite : goal.returns-then-is_finite
returns-then-is_finite c = record {
  value = ap JudgedVector-outcome (translation-tested 0 c.args.t0 c.args.t1 c.args.dt
      c.sub_enclosure-s.ensures.value
      c.translation_unjudged-vector.ensures.value
      c.ends_sum.ensures.value
      c.ends_sum-2.ensures.value
      c.vector_ends_sum.ensures.value
      c.is_finite.ensures.value
      c.if-is_finite.true);
}

pub returns-else-is_finite : goal.returns-else-is_finite
returns-else-is_finite c = record { value = rw (c.translation_enclosure.ensures.value, c.vector_point-b.ensures.value, c.vector_point-a.ensures.value) }
