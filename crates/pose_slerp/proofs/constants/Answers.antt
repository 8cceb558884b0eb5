-- `constants` meets its contract: a chain of three calls.
use Rattle.pose_steps.specs.Pose.{PoseConstants-new}
use borrow.Author.Rules.{rules}
use Rattle.pose_slerp.proofs.constants.Goals as goal

pub returns : goal.returns
unfolding PoseConstants-new
returns c = record { value = cc }
