-- `pad_unjudged` meets its contract: its calls are the formula's operations in working order.
use mathlib.Core.Path.{ap}
use mathlib.Core.List.{List}
use Rattle.interval.specs.declared.Interval.{Interval}
use Rattle.interval_unjudged.specs.formula.Enclose.{enclosure}
use Rattle.interval_unjudged.proofs.Trace.{traced-unjudged}
use Rattle.motion_pad.specs.Pad.{pad_stage, Pad-inputs, Judged-of}
use Rattle.motion_pad.specs.means.Unjudged.{Pad-unjudged}
use Rattle.motion_pad.proofs.pad_unjudged.Goals as goal

pub returns : goal.returns
unfolding Pad-unjudged
returns c = record {
  value = let a = c.args in
      ap (λ (l : List Interval). (Judged-of (enclosure 0 l)).interval)
      (traced-unjudged (Pad-inputs a.pad0 a.pad1 a.dt) pad_stage
      _ c.sub_enclosure-s.ensures.value
      _ c.mul_ordered-p.ensures.value
      _ c.mul_ordered-q.ensures.value
      _ c.add_enclosure.ensures.value);
}
