-- `over` meets its contract: four components, side by side.
use Rattle.lanes.specs.means.Lanes.{Lanes-zip}
use Rattle.pose_lean.specs.means.Lean.{over}
use Rattle.lanes_slerp.specs.means.Quaternions.{LanesQuaternion-lane, LanesQuaternion-of}
use Rattle.lanes_slerp.proofs.over.Goals as goal

pub returns : goal.returns
unfolding Lanes-zip over LanesQuaternion-of LanesQuaternion-lane
returns c = record { value = λ i. record { x = c.div-x.ensures.value i; y = c.div-y.ensures.value i; z = c.div-z.ensures.value i; w = c.div-w.ensures.value i } }
