-- `join` meets its contract: three axes, side by side.
use Rattle.lanes.specs.means.Lanes.{Lanes-zip}
use Rattle.lanes_rotation.specs.means.Matrices.{LanesVector-lane, LanesVector-of}
use Rattle.lanes_box.specs.means.Boxes.{IntervalVector-join}
use Rattle.lanes_box.proofs.join.Goals as goal

pub returns : goal.returns
unfolding IntervalVector-join Lanes-zip LanesVector-lane LanesVector-of
returns c = record { value = λ i. record { x = c.join-x.ensures.value i; y = c.join-y.ensures.value i; z = c.join-z.ensures.value i } }
