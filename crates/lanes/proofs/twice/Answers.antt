-- `twice` meets its contract: end by end.
use Rattle.lanes.specs.means.Lanes.{Lanes-lane, Lanes-of, Lanes-map}
use Rattle.lanes.proofs.twice.Goals as goal

pub returns : goal.returns
unfolding Lanes-map Lanes-of Lanes-lane
returns c = record { value = rw (c.mul4-high.ensures.value, c.mul4-low.ensures.value, c.all-by.ensures.value) }
