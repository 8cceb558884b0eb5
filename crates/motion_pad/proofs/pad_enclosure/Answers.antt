-- `pad_enclosure` meets its contract: where the sum of the ends is finite, nothing would have been refused (`pad-tested`).
use mathlib.Core.Path.{ap}
use Rattle.interval.specs.Judged.{Judged-outcome}
use Rattle.motion_pad.proofs.Unjudged.{pad-tested}
use Rattle.motion_pad.proofs.pad_enclosure.Goals as goal

pub returns-then-is_finite : goal.returns-then-is_finite
returns-then-is_finite c = record {
  value = let a = c.args in
      ap Judged-outcome (pad-tested a.pad0 a.pad1 a.dt
      c.sub_enclosure-s.ensures.value
      c.pad_unjudged-interval.ensures.value
      c.ends_sum.ensures.value
      c.ends_sum-2.ensures.value
      c.ends_sum-3.ensures.value
      c.is_finite.ensures.value
      c.if-is_finite.true);
}

pub returns-else-is_finite : goal.returns-else-is_finite
returns-else-is_finite c = record { value = c.pad_judged.ensures.value }
