-- `row_by` meets its contract: three columns, side by side.
use Rattle.lanes_rotation.specs.means.Matrices.{LanesVector-of, LanesVector-lane, LanesMatrix-lane}
use Rattle.lanes_slerp.specs.pose_lean.means.Lean.{row_by}
use Rattle.lanes_pose.proofs.row_by.Goals as goal

pub returns : goal.returns
unfolding row_by LanesVector-of LanesVector-lane LanesMatrix-lane
returns c = record { value = λ i. record { x = c.dot-x.ensures.value i; y = c.dot-y.ensures.value i; z = c.dot-z.ensures.value i } }
