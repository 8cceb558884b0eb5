-- `rotation_enclosure` meets its contract: where the sum of the ends is finite, nothing would have been refused (`rotation-tested`).
use mathlib.Core.Path.{ap}
use Rattle.pose_steps.specs.Judged.{JudgedMatrix-outcome}
use Rattle.pose_rotation.proofs.Unjudged.{rotation-tested}
use Rattle.pose_rotation.proofs.rotation_enclosure.Goals as goal

pub returns-then-is_finite : goal.returns-then-is_finite
returns-then-is_finite c = record {
  value = ap JudgedMatrix-outcome (rotation-tested 0 c.args.q
      c.products_unjudged-p.ensures.value
      c.rotation_unjudged-matrix.ensures.value
      c.quaternion_ends_sum.ensures.value
      c.products_ends_sum.ensures.value
      c.matrix_ends_sum.ensures.value
      c.is_finite.ensures.value
      c.if-is_finite.true);
}

pub returns-else-is_finite : goal.returns-else-is_finite
returns-else-is_finite c = record { value = c.rotation_enclosure.ensures.value }
