-- `sqrt_enclosure` meets its contract: both roots, the last call first.
use Rattle.interval.specs.Enclosure.{Interval-sqrt_enclosure}
use Rattle.interval_unjudged.proofs.sqrt_enclosure.Goals as goal

pub returns : goal.returns
unfolding Interval-sqrt_enclosure
returns c = record { value = rw (c.sqrt-2.ensures.value, c.sqrt.ensures.value) }
