-- `judge_kind` meets its contract: the kind chooses the case.
use Rattle.pose_pair.specs.Pose.{Pose-kind_number}
use Rattle.pose_pair.proofs.Pose.judge_kind.Goals as goal

pub returns-then-rigid : goal.returns-then-rigid
unfolding Pose-kind_number
returns-then-rigid c = record { value = rw (c.if-rigid.true, ← c.to_rows.ensures.value) c.judge.ensures.value }

pub returns-else-rigid : goal.returns-else-rigid
unfolding Pose-kind_number
returns-else-rigid c = record { value = rw c.if-rigid.false }
