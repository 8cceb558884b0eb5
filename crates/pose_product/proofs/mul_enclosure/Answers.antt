-- `mul_enclosure` meets its contract: where the sum of all ends is finite, nothing would have been refused (`mul-tested`).
use mathlib.Core.Path.{ap}
use Rattle.pose_steps.specs.Judged.{JudgedMatrix-outcome}
use Rattle.pose_product.proofs.Unjudged.{mul-tested}
use Rattle.pose_product.proofs.mul_enclosure.Goals as goal

pub returns-then-is_finite : goal.returns-then-is_finite
returns-then-is_finite c = record {
  value = ap JudgedMatrix-outcome (mul-tested 0 c.args.a c.args.b
      c.mul_row_unjudged-r0.ensures.value
      c.mul_row_unjudged-r1.ensures.value
      c.mul_row_unjudged-r2.ensures.value
      c.matrix_ends_sum.ensures.value
      c.matrix_ends_sum-2.ensures.value
      c.matrix_ends_sum-3.ensures.value
      c.is_finite.ensures.value
      c.if-is_finite.true);
}

pub returns-else-is_finite : goal.returns-else-is_finite
returns-else-is_finite c = record { value = c.mul_enclosure.ensures.value }
