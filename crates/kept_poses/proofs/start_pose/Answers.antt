-- `start_pose` meets its contract: the rows hold the pose's.
use borrow.Author.Rules.{rules}
use Rattle.motion_rows.specs.Rows.{transform_at, AnimatedTransform-from_rows}
use Rattle.kept_poses.proofs.start_pose.Goals as goal

pub returns : goal.returns
unfolding AnimatedTransform-from_rows transform_at
returns c = record { value = c.pose_values.ensures.value }
