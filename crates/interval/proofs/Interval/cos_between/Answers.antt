-- `Interval::cos_between` meets its contract: its calls in turn, from the last to the first.
use Rattle.interval.specs.Interval.{Interval-cos_between}
use Rattle.interval.proofs.Interval.cos_between.Goals as goal

pub returns : goal.returns
unfolding Interval-cos_between
returns c = record {
  value = rw (
    c.new.ensures.value,
    c.select.ensures.value,
    c.straddles.ensures.value,
    c.select-high.ensures.value,
    c.select-low.ensures.value,
  );
}
