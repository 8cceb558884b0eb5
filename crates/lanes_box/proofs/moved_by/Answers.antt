-- `moved_by` meets its contract: three axes, side by side.
use Rattle.lanes_rotation.specs.means.Matrices.{LanesVector-of, LanesVector-lane, LanesMatrix-lane}
use Rattle.lanes_rotation.specs.pose_lean.means.Lean.{moved_by}
use Rattle.lanes_box.proofs.moved_by.Goals as goal

pub returns : goal.returns
unfolding moved_by LanesVector-of LanesVector-lane LanesMatrix-lane
returns c = record { value = λ i. record { x = c.moved-x.ensures.value i; y = c.moved-y.ensures.value i; z = c.moved-z.ensures.value i } }
