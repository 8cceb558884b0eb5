-- `scale_row` meets its contract: three components, side by side.
use borrow.Author.Rules.{rules}
use Rattle.lanes.specs.means.Lanes.{Lanes-zip}
use Rattle.lanes_rotation.specs.means.Matrices.{LanesVector-of}
use Rattle.lanes_slerp.specs.pose_lean.means.Lean.{scale_row}
use Rattle.lanes_pose.proofs.scale_row.Goals as goal

pub returns : goal.returns
unfolding Lanes-zip scale_row LanesVector-of
returns c = record { value = λ i. record { x = c.lerp-x.ensures.value i; y = c.lerp-y.ensures.value i; z = c.lerp-z.ensures.value i } }
