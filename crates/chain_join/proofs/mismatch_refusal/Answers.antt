-- `mismatch_refusal` asks the last pose of the first and the first of the second, and the first blocks' kinds (`poses-agree`, `poses-differ`).
use borrow.Author.Rules.{rules}
use native.Mathlib.Omega.{arith}
use Rattle.chain_join.proofs.Same.{poses-agree, poses-differ}
use Rattle.chain_join.proofs.mismatch_refusal.Goals as goal

pub returns-then-same_pose-same_kind : goal.returns-then-same_pose-same_kind
returns-then-same_pose-same_kind c = let h = c.requires.first_nonzero in let all = poses-agree c.args.first.now c.args.second.now _ (omega (arith, h))
    (c.end_pose-last.ensures.value, c.start_pose-start.ensures.value, c.same_pose.ensures.value, c.same_pose.ensures.same) c.same_kind.ensures.value c.if-same_pose-same_kind.true in record { value = all.0; same = all.1 }

pub returns-else-same_pose-same_kind : goal.returns-else-same_pose-same_kind
returns-else-same_pose-same_kind c = let h = c.requires.first_nonzero in let all = poses-differ c.args.first.now c.args.second.now _ (omega (arith, h))
    (c.end_pose-last.ensures.value, c.start_pose-start.ensures.value, c.same_pose.ensures.value, c.same_pose.ensures.same) c.same_kind.ensures.value c.if-same_pose-same_kind.false in record { value = all.0; same = all.1 }
