-- `one_minus` meets its contract: end by end.
use Rattle.lanes.specs.means.Lanes.{Lanes-lane, Lanes-of, Lanes-map}
use Rattle.interval.specs.Enclosure.{Interval-sub_enclosure}
use Rattle.lanes.proofs.one_minus.Goals as goal

pub returns : goal.returns
unfolding Lanes-map Lanes-of Lanes-lane Interval-sub_enclosure
returns c = record { value = rw (c.sub4-high.ensures.value, c.sub4-low.ensures.value, c.all-one.ensures.value) }
