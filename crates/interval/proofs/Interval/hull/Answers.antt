-- `Interval::hull` meets its contract: its two ends are what `min` and `max` give.
use Rattle.interval.specs.Interval.{Interval-hull}
use Rattle.interval.proofs.Interval.hull.Goals as goal

pub returns : goal.returns
unfolding Interval-hull
returns c = record { value = rw (c.max.ensures.value, c.min.ensures.value) }
