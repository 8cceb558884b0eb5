-- `turned` meets its contract: four components, side by side.
use Rattle.lanes.specs.means.Lanes.{Lanes-zip}
use Rattle.pose_lean.specs.means.Lean.{turned}
use Rattle.lanes_slerp.specs.means.Quaternions.{LanesQuaternion-of}
use Rattle.lanes_slerp.proofs.turned.Goals as goal

pub returns : goal.returns
unfolding Lanes-zip turned LanesQuaternion-of
returns c = record { value = λ i. record { x = c.mix-x.ensures.value i; y = c.mix-y.ensures.value i; z = c.mix-z.ensures.value i; w = c.mix-w.ensures.value i } }
