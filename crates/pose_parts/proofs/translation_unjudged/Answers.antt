-- `translation_unjudged` meets its contract: its calls are the formula's operations in working order.
use mathlib.Core.Path.{ap, ap₂, ◌∙◌}
use mathlib.Core.List.{List, [], ◌∷◌, ◌++◌}
use Rattle.interval.specs.declared.Interval.{Interval}
use Rattle.interval_unjudged.specs.formula.Enclose.{enclosure}
use Rattle.interval_unjudged.proofs.Trace.{traced-unjudged}
use Rattle.pose_steps.specs.declared.IntervalVector.{IntervalVector}
use Rattle.pose_steps.specs.Stages.{translation_stage}
use Rattle.pose_steps.specs.Enclose.{IntervalVector-list, JudgedVector-of}
use Rattle.pose_parts.specs.means.Unjudged.{Pose-unjudged_translation}
use Rattle.pose_parts.proofs.translation_unjudged.Goals as goal

pub returns : goal.returns
unfolding Pose-unjudged_translation
returns c = record {
  value = ap (λ (l : List Interval). (JudgedVector-of (enclosure 0 l)).vector)
      (traced-unjudged (IntervalVector-list _ ++ IntervalVector-list _ ++ c.args.dt ∷ []) translation_stage
      _ c.sub_enclosure-s.ensures.value
      _ c.mul_ordered-px.ensures.value
      _ c.mul_ordered-qx.ensures.value
      _ c.add_enclosure-x.ensures.value
      _ c.mul_ordered-py.ensures.value
      _ c.mul_ordered-qy.ensures.value
      _ c.add_enclosure-y.ensures.value
      _ c.mul_ordered-pz.ensures.value
      _ c.mul_ordered-qz.ensures.value
      _ c.add_enclosure-z.ensures.value)
      ∙ ap₂ (λ (a b : IntervalVector). Pose-unjudged_translation a b c.args.dt) c.vector_point-a.ensures.value c.vector_point-b.ensures.value;
}
