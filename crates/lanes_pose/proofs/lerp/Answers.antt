-- `lerp` meets its contract: its calls in turn.
use Rattle.lanes.specs.means.Lanes.{Lanes-lane, Lanes-of, Lanes-map, Lanes-zip}
use Rattle.lanes_slerp.specs.pose_lean.means.Lean.{lerp}
use Rattle.lanes_pose.proofs.lerp.Goals as goal

pub returns : goal.returns
unfolding Lanes-lane Lanes-of Lanes-map Lanes-zip lerp
returns c = record { value = rw (c.add.ensures.value, c.scaled-2.ensures.value, c.scaled.ensures.value) }
