-- `product` meets its contract: three rows, side by side.
use Rattle.lanes_rotation.specs.means.Matrices.{LanesMatrix-of, LanesMatrix-lane}
use Rattle.lanes_slerp.specs.pose_lean.means.Lean.{product}
use Rattle.lanes_pose.proofs.product.Goals as goal

pub returns : goal.returns
unfolding product LanesMatrix-of LanesMatrix-lane
returns c = record { value = λ i. record { r0 = c.row_by-r0.ensures.value i; r1 = c.row_by-r1.ensures.value i; r2 = c.row_by-r2.ensures.value i } }
