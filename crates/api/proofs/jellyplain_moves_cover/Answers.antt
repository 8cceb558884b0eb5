-- `jellyplain_moves_cover` meets its contract: the cover of the chain in the rows, and the guarantee of it (`moves-cover-clauses`).
use Rattle.api.proofs.Kept.{moves-cover-clauses}
use Rattle.moves_asked.specs.Asked.{Moves-asked}
use borrow.Author.Rules.{rules}
use Rattle.api.proofs.jellyplain_moves_cover.Goals as goal

pub returns : goal.returns
returns c = let a = c.args in let asked = c.asked in let cover = c.cover in let bounds = c.bounds in let all = moves-cover-clauses (Moves-asked a.moves.now) a.b.now a.depth _ _ a.bounds.now
    (rw (c.put_bounds.ensures.refusal, cover.ensures.value, bounds.ensures.value, asked.ensures.value))
    (rw (c.put_bounds.ensures.left, cover.ensures.value, bounds.ensures.value, asked.ensures.value)) in record { refusal = all.0; left = all.1.0; kept = all.1.1.0; contains_motion = all.1.1.1.0; finer = all.1.1.1.1 }
