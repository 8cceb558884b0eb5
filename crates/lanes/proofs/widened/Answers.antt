-- `widened` meets its contract: end by end.
use Rattle.lanes.specs.means.Lanes.{Interval-widened, Lanes-lane, Lanes-of}
use Rattle.lanes.proofs.widened.Goals as goal

pub returns : goal.returns
unfolding Lanes-of Lanes-lane Interval-widened
returns c = record { value = rw (c.add4-high.ensures.value, c.sub4-low.ensures.value) }
