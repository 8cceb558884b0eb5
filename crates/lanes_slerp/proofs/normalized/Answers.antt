-- `normalized` meets its contract: the quotient by the length.
use Rattle.lanes.specs.means.Lanes.{Lanes-lane, Lanes-of}
use Rattle.pose_lean.specs.means.Lean.{normalized}
use Rattle.lanes_slerp.specs.means.Quaternions.{LanesQuaternion-of}
use Rattle.lanes_slerp.proofs.normalized.Goals as goal

pub returns : goal.returns
unfolding Lanes-lane Lanes-of LanesQuaternion-of normalized
returns c = record { value = rw (c.over.ensures.value, c.length.ensures.value) }
