-- `repeated` meets its contract: three axes, side by side.
use Rattle.lanes_rotation.specs.means.Matrices.{LanesVector-of}
use Rattle.lanes_box.proofs.repeated.Goals as goal

pub returns : goal.returns
unfolding LanesVector-of
returns c = record { value = λ i. record { x = c.repeated-x.ensures.value i; y = c.repeated-y.ensures.value i; z = c.repeated-z.ensures.value i } }
