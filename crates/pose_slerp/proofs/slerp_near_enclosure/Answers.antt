-- `slerp_near_enclosure` meets its contract: where the sum of the ends is finite and the length positive, nothing would have been refused (`near-tested`).
use mathlib.Core.Path.{ap}
use Rattle.pose_steps.specs.Judged.{JudgedQuaternion-outcome}
use Rattle.pose_slerp.proofs.Near.{near-tested}
use Rattle.pose_slerp.proofs.slerp_near_enclosure.Goals as goal

pub returns-then-is_finite-n : goal.returns-then-is_finite-n
returns-then-is_finite-n c = record {
  value = ap JudgedQuaternion-outcome (near-tested 0 c.args.q1 c.args.q2 c.args.t
      c.sub_enclosure-s.ensures.value
      c.combination_unjudged-q.ensures.value
      c.squared_unjudged-dot.ensures.value
      c.sqrt_enclosure-n.ensures.value
      c.quotient_unjudged-quaternion.ensures.value
      c.ends_sum.ensures.value
      c.ends_sum-2.ensures.value
      c.ends_sum-3.ensures.value
      c.quaternion_ends_sum.ensures.value
      c.quaternion_ends_sum-2.ensures.value
      c.is_finite.ensures.value
      c.if-is_finite-n.true);
}

pub returns-else-is_finite-n : goal.returns-else-is_finite-n
returns-else-is_finite-n c = record { value = rw (c.slerp_near_enclosure.ensures.value, c.quaternion_point-b.ensures.value, c.quaternion_point-a.ensures.value) }
