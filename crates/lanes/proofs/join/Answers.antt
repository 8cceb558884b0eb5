-- `join` meets its contract: end by end.
use Rattle.lanes.specs.means.Lanes.{Interval-join, Lanes-lane, Lanes-of, Lanes-zip}
use Rattle.lanes.proofs.join.Goals as goal

pub returns : goal.returns
unfolding Lanes-zip Lanes-of Lanes-lane Interval-join
returns c = record { value = rw (c.greater4-high.ensures.value, c.lesser4-low.ensures.value) }
