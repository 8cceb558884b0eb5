-- `moved` meets its contract: its calls in turn.
use Rattle.lanes.specs.means.Lanes.{Lanes-lane, Lanes-of, Lanes-zip}
use Rattle.lanes_rotation.specs.means.Matrices.{LanesVector-lane}
use Rattle.lanes_rotation.specs.pose_lean.means.Lean.{moved}
use Rattle.lanes_box.proofs.moved.Goals as goal

pub returns : goal.returns
unfolding Lanes-lane Lanes-of Lanes-zip moved LanesVector-lane
returns c = record { value = rw (c.add-3.ensures.value, c.add-2.ensures.value, c.add.ensures.value, c.mul-z.ensures.value, c.mul-y.ensures.value, c.mul-x.ensures.value) }
