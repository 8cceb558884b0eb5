-- `jellyplain_cover` meets its contract: the cover of the move in the rows, and the guarantee of it (`cover-clauses`).
use Rattle.api.proofs.Kept.{cover-clauses}
use borrow.Author.Rules.{rules}
use Rattle.api.proofs.jellyplain_cover.Goals as goal

pub returns : goal.returns
returns c = let a = c.args in let all = cover-clauses a.motion.now a.b.now a.depth _ _ a.bounds.now
    (rw (c.put_bounds.ensures.refusal, c.cover.ensures.value, c.bounds.ensures.value, c.from_rows.ensures.value))
    (rw (c.put_bounds.ensures.left, c.cover.ensures.value, c.bounds.ensures.value, c.from_rows.ensures.value)) in record { refusal = all.0; left = all.1.0; contains_motion = all.1.1.0; finer = all.1.1.1 }
