-- `translate_enclosure` meets its contract: where the sum of all ends is finite, nothing would have been refused (`translate-tested`).
use mathlib.Core.Path.{◌∙◌, ap}
use Rattle.pose_steps.specs.declared.IntervalMatrix.{IntervalMatrix}
use Rattle.pose_steps.specs.Enclose.{Pose-enclose_mul}
use Rattle.pose_steps.specs.Judged.{JudgedMatrix-outcome}
use Rattle.pose_product.proofs.Unjudged.{translate-tested}
use Rattle.pose_product.proofs.translate_enclosure.Goals as goal

pub returns-then-is_finite : goal.returns-then-is_finite
returns-then-is_finite c = record {
  value = ap JudgedMatrix-outcome (translate-tested 0 c.args.v c.args.b
      c.translated-product.ensures.value
      c.translation_matrix-translate.ensures.value
      c.matrix_ends_sum.ensures.value
      c.matrix_ends_sum-2.ensures.value
      c.matrix_ends_sum-3.ensures.value
      c.is_finite.ensures.value
      c.if-is_finite.true);
}

pub returns-else-is_finite : goal.returns-else-is_finite
returns-else-is_finite c = record { value = c.mul_enclosure.ensures.value ∙ ap (λ (a : IntervalMatrix). JudgedMatrix-outcome (Pose-enclose_mul 0 a c.args.b)) c.translation_matrix-translate.ensures.value }
