-- `pad_high` meets its contract: the high ends.
use Rattle.lanes.specs.means.Lanes.{Lanes-of, Lanes-zip}
use Rattle.lanes_slerp.specs.pose_lean.means.Lean.{pad_high}
use Rattle.lanes_pose.proofs.pad_high.Goals as goal

pub returns : goal.returns
unfolding Lanes-of Lanes-zip pad_high
returns c = record { value = λ i. (c.lerp-pad.ensures.value i).high }
