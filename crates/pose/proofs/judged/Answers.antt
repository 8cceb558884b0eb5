-- `judged` meets its contract: the test chooses the case.
use Rattle.pose_steps.specs.Pose.{PoseAnswer-judged}
use Rattle.pose.proofs.judged.Goals as goal

pub returns-then-finite : goal.returns-then-finite
unfolding PoseAnswer-judged
returns-then-finite c = record { value = rw c.if-finite.true }

pub returns-else-finite : goal.returns-else-finite
unfolding PoseAnswer-judged
returns-else-finite c = record { value = rw c.if-finite.false }
