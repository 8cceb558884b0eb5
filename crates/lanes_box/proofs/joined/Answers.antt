-- `joined` meets its contract: three axes, side by side.
use Rattle.lanes_box.specs.means.Boxes.{LanesVector-joined}
use Rattle.lanes_box.proofs.joined.Goals as goal

pub returns : goal.returns
unfolding LanesVector-joined
returns c = record { value = rw (c.joined-z.ensures.value, c.joined-y.ensures.value, c.joined-x.ensures.value) }
