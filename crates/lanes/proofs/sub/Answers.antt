-- `sub` meets its contract: end by end.
use Rattle.lanes.specs.means.Lanes.{Lanes-lane, Lanes-of, Lanes-zip}
use Rattle.interval.specs.Enclosure.{Interval-sub_enclosure}
use Rattle.lanes.proofs.sub.Goals as goal

pub returns : goal.returns
unfolding Lanes-zip Lanes-of Lanes-lane Interval-sub_enclosure
returns c = record { value = rw (c.sub4-high.ensures.value, c.sub4-low.ensures.value) }
