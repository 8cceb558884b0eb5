-- `perpendicular_to` meets its contract: its calls in turn, from the last to the first.
use Rattle.pose_slerp.specs.means.Unjudged.{Perpendicular-of}
use Rattle.pose_slerp.proofs.perpendicular_to.Goals as goal

pub returns : goal.returns
unfolding Perpendicular-of
returns c = record { value = rw c.sqrt-n.ensures.value }
