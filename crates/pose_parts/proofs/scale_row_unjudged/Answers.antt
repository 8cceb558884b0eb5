-- `scale_row_unjudged` meets its contract: its calls are the formula's operations in working order.
use mathlib.Core.Path.{ap, ap₂, ◌∙◌}
use mathlib.Core.List.{List, [], ◌∷◌, ◌++◌}
use Rattle.interval.specs.declared.Interval.{Interval}
use Rattle.interval_unjudged.specs.formula.Enclose.{enclosure}
use Rattle.interval_unjudged.proofs.Trace.{traced-unjudged}
use Rattle.pose_steps.specs.declared.IntervalRow.{IntervalRow}
use Rattle.pose_steps.specs.Stages.{scale_row_stage}
use Rattle.pose_steps.specs.Enclose.{IntervalRow-three, JudgedRow-of}
use Rattle.pose_parts.specs.means.Unjudged.{Pose-unjudged_scale_row}
use Rattle.pose_parts.proofs.scale_row_unjudged.Goals as goal

pub returns : goal.returns
unfolding Pose-unjudged_scale_row
returns c = record {
  value = let second = c.row_point-b in
      let first = c.row_point-a in
      ap (λ (l : List Interval). (JudgedRow-of (enclosure 0 l)).row)
      (traced-unjudged (IntervalRow-three first.result ++ IntervalRow-three second.result ++ c.args.dt ∷ []) scale_row_stage
      _ c.sub_enclosure-d0.ensures.value
      _ c.mul_ordered-p0.ensures.value
      _ c.mul_ordered-q0.ensures.value
      _ c.add_enclosure-c0.ensures.value
      _ c.sub_enclosure-d1.ensures.value
      _ c.mul_ordered-p1.ensures.value
      _ c.mul_ordered-q1.ensures.value
      _ c.add_enclosure-c1.ensures.value
      _ c.sub_enclosure-d2.ensures.value
      _ c.mul_ordered-p2.ensures.value
      _ c.mul_ordered-q2.ensures.value
      _ c.add_enclosure-c2.ensures.value)
      ∙ ap₂ (λ (a b : IntervalRow). Pose-unjudged_scale_row a b c.args.dt) first.ensures.value second.ensures.value;
}
