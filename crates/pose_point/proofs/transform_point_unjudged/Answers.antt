-- `transform_point_unjudged` meets its contract: its calls are the formula's operations in working order.
use mathlib.Core.Path.{ap}
use mathlib.Core.List.{List, ◌++◌}
use Rattle.interval.specs.declared.Interval.{Interval}
use Rattle.interval_unjudged.specs.formula.Enclose.{enclosure}
use Rattle.interval_unjudged.proofs.Trace.{traced-unjudged}
use Rattle.pose_steps.specs.Stages.{transform_point_stage}
use Rattle.pose_steps.specs.Enclose.{IntervalVector-list, IntervalMatrix-list, JudgedVector-of}
use Rattle.pose_point.specs.means.Unjudged.{Pose-unjudged_transform_point}
use Rattle.pose_point.proofs.transform_point_unjudged.Goals as goal

pub returns : goal.returns
unfolding Pose-unjudged_transform_point
returns c = record {
  value = ap (λ (l : List Interval). (JudgedVector-of (enclosure 0 l)).vector)
      (traced-unjudged (IntervalMatrix-list c.args.a ++ IntervalVector-list c.args.p) transform_point_stage
      _ c.mul_ordered-p0.ensures.value
      _ c.mul_ordered-q0.ensures.value
      _ c.add_enclosure-s0.ensures.value
      _ c.mul_ordered-t0.ensures.value
      _ c.add_enclosure-u0.ensures.value
      _ c.add_enclosure-x.ensures.value
      _ c.mul_ordered-p1.ensures.value
      _ c.mul_ordered-q1.ensures.value
      _ c.add_enclosure-s1.ensures.value
      _ c.mul_ordered-t1.ensures.value
      _ c.add_enclosure-u1.ensures.value
      _ c.add_enclosure-y.ensures.value
      _ c.mul_ordered-p2.ensures.value
      _ c.mul_ordered-q2.ensures.value
      _ c.add_enclosure-s2.ensures.value
      _ c.mul_ordered-t2.ensures.value
      _ c.add_enclosure-u2.ensures.value
      _ c.add_enclosure-z.ensures.value);
}
