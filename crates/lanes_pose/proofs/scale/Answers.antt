-- `scale` meets its contract: three rows, side by side.
use Rattle.lanes_rotation.specs.means.Matrices.{LanesMatrix-of}
use Rattle.lanes_slerp.specs.pose_lean.means.Lean.{scale}
use Rattle.lanes_pose.proofs.scale.Goals as goal

pub returns : goal.returns
unfolding scale LanesMatrix-of
returns c = record { value = λ i. record { r0 = c.scale_row-r0.ensures.value i; r1 = c.scale_row-r1.ensures.value i; r2 = c.scale_row-r2.ensures.value i } }
