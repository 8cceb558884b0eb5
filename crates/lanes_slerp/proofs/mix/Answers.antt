-- `mix` meets its contract: its calls in turn.
use Rattle.lanes.specs.means.Lanes.{Lanes-lane, Lanes-of, Lanes-map, Lanes-zip}
use Rattle.pose_lean.specs.means.Lean.{mix}
use Rattle.lanes_slerp.proofs.mix.Goals as goal

pub returns : goal.returns
unfolding Lanes-lane Lanes-of Lanes-map Lanes-zip mix
returns c = record { value = rw (c.add.ensures.value, c.times-2.ensures.value, c.times.ensures.value) }
