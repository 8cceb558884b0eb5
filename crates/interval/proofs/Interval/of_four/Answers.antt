-- `Interval::of_four` meets its contract: least and greatest, pair by pair.
use Rattle.interval.specs.Interval.{Interval-of_four}
use Rattle.interval.proofs.Interval.of_four.Goals as goal

pub returns : goal.returns
unfolding Interval-of_four
returns c = record { value = rw (c.hull.ensures.value, c.new-2.ensures.value, c.new.ensures.value) }
