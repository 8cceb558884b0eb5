-- `add` meets its contract: end by end.
use Rattle.lanes.specs.means.Lanes.{Lanes-lane, Lanes-of, Lanes-zip}
use Rattle.interval.specs.Enclosure.{Interval-add_enclosure}
use Rattle.lanes.proofs.add.Goals as goal

pub returns : goal.returns
unfolding Lanes-zip Lanes-of Lanes-lane Interval-add_enclosure
returns c = record { value = rw (c.add4-high.ensures.value, c.add4-low.ensures.value) }
