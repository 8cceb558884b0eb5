-- `sqrt` meets its contract: end by end.
use Rattle.lanes.specs.means.Lanes.{Lanes-lane, Lanes-of, Lanes-map}
use Rattle.interval.specs.Enclosure.{Interval-sqrt_enclosure}
use Rattle.lanes.proofs.sqrt.Goals as goal

pub returns : goal.returns
unfolding Lanes-map Lanes-of Lanes-lane Interval-sqrt_enclosure
returns c = record { value = rw (c.sqrt4-high.ensures.value, c.sqrt4-low.ensures.value) }
