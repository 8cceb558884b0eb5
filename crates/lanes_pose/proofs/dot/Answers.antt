-- `dot` meets its contract: its calls in turn.
use Rattle.lanes.specs.means.Lanes.{Lanes-lane, Lanes-of, Lanes-zip}
use Rattle.lanes_rotation.specs.means.Matrices.{LanesVector-lane}
use Rattle.lanes_slerp.specs.pose_lean.means.Lean.{dot}
use Rattle.lanes_pose.proofs.dot.Goals as goal

pub returns : goal.returns
unfolding Lanes-lane Lanes-of Lanes-zip dot LanesVector-lane
returns c = record { value = rw (c.add-2.ensures.value, c.mul-3.ensures.value, c.add.ensures.value, c.mul-2.ensures.value, c.mul.ensures.value) }
