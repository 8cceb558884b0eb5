-- `mul_row_unjudged` meets its contract: its calls are the formula's operations in working order.
use mathlib.Core.Path.{ap}
use mathlib.Core.List.{List, ◌++◌}
use Rattle.interval.specs.declared.Interval.{Interval}
use Rattle.interval_unjudged.specs.formula.Enclose.{enclosure}
use Rattle.interval_unjudged.proofs.Trace.{traced-unjudged}
use Rattle.pose_steps.specs.Stages.{mul_row_stage}
use Rattle.pose_steps.specs.Enclose.{IntervalMatrix-list, IntervalRow-list, JudgedRow-of}
use Rattle.pose_product.specs.means.Unjudged.{Pose-unjudged_mul_row}
use Rattle.pose_product.proofs.mul_row_unjudged.Goals as goal

pub returns : goal.returns
unfolding Pose-unjudged_mul_row
returns c = record {
  value = ap (λ (l : List Interval). (JudgedRow-of (enclosure 0 l)).row)
      (traced-unjudged (IntervalRow-list c.args.a ++ IntervalMatrix-list c.args.b) mul_row_stage
      _ c.mul_ordered-p0.ensures.value
      _ c.mul_ordered-q0.ensures.value
      _ c.add_enclosure-s0.ensures.value
      _ c.mul_ordered-t0.ensures.value
      _ c.add_enclosure-u0.ensures.value
      _ c.mul_ordered-v0.ensures.value
      _ c.add_enclosure-c0.ensures.value
      _ c.mul_ordered-p1.ensures.value
      _ c.mul_ordered-q1.ensures.value
      _ c.add_enclosure-s1.ensures.value
      _ c.mul_ordered-t1.ensures.value
      _ c.add_enclosure-u1.ensures.value
      _ c.mul_ordered-v1.ensures.value
      _ c.add_enclosure-c1.ensures.value
      _ c.mul_ordered-p2.ensures.value
      _ c.mul_ordered-q2.ensures.value
      _ c.add_enclosure-s2.ensures.value
      _ c.mul_ordered-t2.ensures.value
      _ c.add_enclosure-u2.ensures.value
      _ c.mul_ordered-v2.ensures.value
      _ c.add_enclosure-c2.ensures.value
      _ c.mul_ordered-p3.ensures.value
      _ c.mul_ordered-q3.ensures.value
      _ c.add_enclosure-s3.ensures.value
      _ c.mul_ordered-t3.ensures.value
      _ c.add_enclosure-u3.ensures.value
      _ c.mul_ordered-v3.ensures.value
      _ c.add_enclosure-c3.ensures.value);
}
