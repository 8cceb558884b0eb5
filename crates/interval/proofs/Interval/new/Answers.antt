-- `Interval::new` meets its contract: its two ends are what `min` and `max` give.
use Rattle.interval.specs.Interval.{Interval-new}
use Rattle.interval.proofs.Interval.new.Goals as goal

pub returns : goal.returns
unfolding Interval-new
returns c = record { value = rw (c.max.ensures.value, c.min.ensures.value) }
