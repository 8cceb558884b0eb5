-- `EndAngle::cos_range` meets its contract: its calls in turn, from the last to the first.
use Rattle.interval.specs.means.EndAngle.{EndAngle-cos_range}
use Rattle.interval.proofs.EndAngle.cos_range.Goals as goal

pub returns : goal.returns
unfolding EndAngle-cos_range
returns c = record {
  value = rw (
    c.select-2.ensures.value,
    c.max.ensures.value,
    c.lies-3.ensures.value,
    c.lies-2.ensures.value,
    c.select.ensures.value,
    c.min.ensures.value,
    c.lies.ensures.value,
  );
}
