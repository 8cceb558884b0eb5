-- `jellyplain_moves_try` meets its contract: the trial of the chain in the rows, what it is of a built chain, and the guarantee of it (`moves-try-clauses`).
use Rattle.api.proofs.Kept.{moves-try-clauses}
use borrow.Author.Rules.{rules}
use Rattle.api.proofs.jellyplain_moves_try.Goals as goal

pub returns : goal.returns
returns c = let a = c.args in let shown = c.try_pose in let b = c.bounds.ensures.value in let all = moves-try-clauses a.moves.now a.place a.pose.now a.b.now a.depth _ _ a.bounds.now shown.result
    (rw (shown.ensures.value, b)) (rw (← b) shown.ensures.contains_motion) c.put_bounds.ensures.refusal c.put_bounds.ensures.left in record { refusal = all.0; left = all.1.0; kept = all.1.1.0; contains_motion = all.1.1.1 }
