-- `shifted` meets its contract: three components, side by side.
use Rattle.lanes.specs.means.Lanes.{Lanes-zip}
use Rattle.lanes_rotation.specs.means.Matrices.{LanesVector-of}
use Rattle.lanes_slerp.specs.pose_lean.means.Lean.{shifted}
use Rattle.lanes_pose.proofs.shifted.Goals as goal

pub returns : goal.returns
unfolding Lanes-zip shifted LanesVector-of
returns c = record { value = λ i. record { x = c.mix-x.ensures.value i; y = c.mix-y.ensures.value i; z = c.mix-z.ensures.value i } }
