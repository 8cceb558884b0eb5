-- `joined` meets its contract: end by end.
use Rattle.lanes.specs.means.Lanes.{Lanes-joined}
use Rattle.lanes.proofs.joined.Goals as goal

pub returns : goal.returns
unfolding Lanes-joined
returns c = record { value = rw (c.greatest-high.ensures.value, c.least-low.ensures.value) }
