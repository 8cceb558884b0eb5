-- `scale_unjudged` meets its contract, row by row, the last call first.
use Rattle.pose_parts.specs.means.Unjudged.{Pose-unjudged_scale}
use Rattle.pose_parts.proofs.scale_unjudged.Goals as goal

pub returns : goal.returns
unfolding Pose-unjudged_scale
returns c = record { value = rw (c.scale_row_unjudged-r2.ensures.value, c.scale_row_unjudged-r1.ensures.value, c.scale_row_unjudged-r0.ensures.value) }
