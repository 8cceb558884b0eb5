-- `pose_of` is the pose of fourteen values, item by item (`pose-listed`).
use Rattle.motion_file.proofs.Files.{items, pose-listed}
use Rattle.motion_file.proofs.pose_of.Goals as goal

pub returns : goal.returns
unfolding items
returns c = pose-listed c.args.line c.well_formed.0.1.0.1
