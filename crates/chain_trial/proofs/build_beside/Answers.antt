-- `build_beside` meets its contract: at the first place, at the last and between, the poses that it builds from are those beside the place.
use Rattle.changed_chain.specs.lent_arrays.Arrays.{Pose-of_list}
use Rattle.chain_trial.proofs.Beside.{first-same, last-same, inner-same, beside-clauses}
use borrow.Author.Rules.{rules}
use Rattle.chain_trial.proofs.build_beside.Goals as goal

pub returns-then-place-eq0 : goal.returns-then-place-eq0
returns-then-place-eq0 c = let a = c.args in let all = beside-clauses a.moves.now a.place (Pose-of_list a.pose.now) c.is_rigid-rigid.ensures.value
    (first-same a.moves.now (Pose-of_list a.pose.now) c.requires.moves_nonzero a.place c.if-place-eq0.true c.end_pose.ensures.value)
    (c.build_two.ensures.refusal, (c.build_two.ensures.built, c.build_two.ensures.same)) in record { refusal = all.0; built = all.1.0; same = all.1.1 }

pub returns-then-place-moves : goal.returns-then-place-moves
returns-then-place-moves c = let a = c.args in let all = beside-clauses a.moves.now a.place (Pose-of_list a.pose.now) c.is_rigid-rigid.ensures.value
    (last-same a.moves.now (Pose-of_list a.pose.now) c.requires.moves_nonzero a.place c.if-place-eq0.false c.if-place-moves.true c.start_pose-start.ensures.value)
    (c.build_two-then-place-moves.ensures.refusal, (c.build_two-then-place-moves.ensures.built, c.build_two-then-place-moves.ensures.same)) in record { refusal = all.0; built = all.1.0; same = all.1.1 }

pub returns : goal.returns
returns c = let a = c.args in let all = beside-clauses a.moves.now a.place (Pose-of_list a.pose.now) c.is_rigid-rigid.ensures.value
    (inner-same a.moves.now (Pose-of_list a.pose.now) c.requires.moves_nonzero a.place c.if-place-eq0.false c.if-place-moves.false c.requires.place_in_bounds
    c.start_pose-start.ensures.value c.end_pose-2.ensures.value)
    (c.build_three.ensures.refusal, (c.build_three.ensures.built, c.build_three.ensures.same)) in record { refusal = all.0; built = all.1.0; same = all.1.1 }
