-- `diagonal` meets its contract: its calls in turn.
use Rattle.lanes.specs.means.Lanes.{Lanes-lane, Lanes-of, Lanes-map, Lanes-zip}
use Rattle.lanes_slerp.specs.pose_lean.means.Lean.{diagonal}
use Rattle.lanes_rotation.proofs.diagonal.Goals as goal

pub returns : goal.returns
unfolding Lanes-lane Lanes-of Lanes-map Lanes-zip diagonal
returns c = record { value = rw (c.one_minus.ensures.value, c.twice.ensures.value, c.add.ensures.value) }
