-- `twice_sum` meets its contract: its calls in turn.
use Rattle.lanes.specs.means.Lanes.{Lanes-lane, Lanes-of, Lanes-map, Lanes-zip}
use Rattle.lanes_slerp.specs.pose_lean.means.Lean.{twice_sum}
use Rattle.lanes_rotation.proofs.twice_sum.Goals as goal

pub returns : goal.returns
unfolding Lanes-lane Lanes-of Lanes-map Lanes-zip twice_sum
returns c = record { value = rw (c.twice.ensures.value, c.add.ensures.value) }
