-- `twice_difference` meets its contract: its calls in turn.
use Rattle.lanes.specs.means.Lanes.{Lanes-lane, Lanes-of, Lanes-map, Lanes-zip}
use Rattle.lanes_slerp.specs.pose_lean.means.Lean.{twice_difference}
use Rattle.lanes_rotation.proofs.twice_difference.Goals as goal

pub returns : goal.returns
unfolding Lanes-lane Lanes-of Lanes-map Lanes-zip twice_difference
returns c = record { value = rw (c.twice.ensures.value, c.sub.ensures.value) }
