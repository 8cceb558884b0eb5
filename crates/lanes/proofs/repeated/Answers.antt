-- `repeated` meets its contract: end by end.
use Rattle.lanes.specs.means.Lanes.{Lanes-of}
use Rattle.lanes.proofs.repeated.Goals as goal

pub returns : goal.returns
unfolding Lanes-of
returns c = record { value = rw (c.all-high.ensures.value, c.all-low.ensures.value) }
