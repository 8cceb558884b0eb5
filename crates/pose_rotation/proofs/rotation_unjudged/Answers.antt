-- `rotation_unjudged` meets its contract: its calls are the formula's operations in working order.
use mathlib.Core.Path.{ap}
use mathlib.Core.List.{List, ◌∷◌}
use Rattle.interval.specs.declared.Interval.{Interval}
use Rattle.interval_unjudged.specs.formula.Enclose.{unbound, enclosure}
use Rattle.interval_unjudged.specs.means.After.{Program-after}
use Rattle.interval_unjudged.proofs.Trace.{traced-unjudged}
use Rattle.pose_steps.specs.Stages.{rotation_stage}
use Rattle.pose_steps.specs.Enclose.{JudgedMatrix-of}
use Rattle.pose_rotation.specs.means.Unjudged.{Products-list, Pose-unjudged_rotation}
use Rattle.pose_rotation.proofs.rotation_unjudged.Goals as goal

pub returns : goal.returns
unfolding Pose-unjudged_rotation
returns c = record {
  value = ap (λ (l : List Interval). (JudgedMatrix-of (enclosure 0 l)).matrix)
      (traced-unjudged (unbound ∷ unbound ∷ unbound ∷ unbound ∷ Products-list c.args.p) (Program-after 9 4 rotation_stage)
      _ c.add_enclosure-a00.ensures.value
      _ c.mul_ordered-b00.ensures.value
      _ c.sub_enclosure-m00.ensures.value
      _ c.add_enclosure-a01.ensures.value
      _ c.mul_ordered-m01.ensures.value
      _ c.sub_enclosure-a02.ensures.value
      _ c.mul_ordered-m02.ensures.value
      _ c.sub_enclosure-a10.ensures.value
      _ c.mul_ordered-m10.ensures.value
      _ c.add_enclosure-a11.ensures.value
      _ c.mul_ordered-b11.ensures.value
      _ c.sub_enclosure-m11.ensures.value
      _ c.add_enclosure-a12.ensures.value
      _ c.mul_ordered-m12.ensures.value
      _ c.add_enclosure-a20.ensures.value
      _ c.mul_ordered-m20.ensures.value
      _ c.sub_enclosure-a21.ensures.value
      _ c.mul_ordered-m21.ensures.value
      _ c.add_enclosure-a22.ensures.value
      _ c.mul_ordered-b22.ensures.value
      _ c.sub_enclosure-m22.ensures.value);
}
