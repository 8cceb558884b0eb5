-- `slerp_near` meets its contract: the formula, read in floats, is its code.
use Rattle.pose_steps.specs.Pose.{Pose-slerp_near}
use borrow.Author.Rules.{rules}
use Rattle.pose_slerp.proofs.slerp_near.Goals as goal

pub returns : goal.returns
unfolding Pose-slerp_near
returns c = record { value = cc }
