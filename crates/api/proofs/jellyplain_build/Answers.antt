-- `jellyplain_build` meets its contract: the building of the two poses, and what it leaves holds the move (`build-clauses`).
use Rattle.lent_arrays.specs.Arrays.{Pose-of_list}
use Rattle.animated_transform.specs.New.{AnimatedTransformAnswer-of_result}
use Rattle.animated_transform.proofs.Built.{answered-built}
use Rattle.api.proofs.Kept.{build-clauses}
use borrow.Author.Rules.{rules}
use Rattle.api.proofs.jellyplain_build.Goals as goal

pub returns : goal.returns
returns c = let a = c.args in let new = c.new in let all = build-clauses a.rigid (Pose-of_list a.start.now) (Pose-of_list a.end.now) (AnimatedTransformAnswer-of_result new.result) _ _ a.motion.now
    (rw (new.ensures.value, c.pose-2.ensures.value, c.pose.ensures.value)) (answered-built new.result new.ensures.built)
    c.put_motion.ensures.refusal c.put_motion.ensures.left in record { refusal = all.0; left = all.1.0; holds = all.1.1 }
