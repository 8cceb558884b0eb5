-- `pose_stage` meets its contract. Its loop keeps the first number of the poses from the index on: that of all.
use mathlib.Core.Path.{◌≡◌}
use Rattle.motion_chain.specs.Chain.{stage, Pose-number}
use Rattle.chain_poses.proofs.Loops.{poses_from}
use Rattle.chain_poses.proofs.pose_stage.Given as goal

abbrev pub invariant-loop-pose : goal.invariant-loop-pose
invariant-loop-pose l = stage (Pose-number l.k) (poses_from l.poses l.pose-index) ≡ stage (Pose-number l.k) (poses_from l.poses 0)
