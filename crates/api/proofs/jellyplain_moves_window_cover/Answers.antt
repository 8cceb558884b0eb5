-- `jellyplain_moves_window_cover` meets its contract: the cover of a window of the chain in the rows, and the guarantee of it (`moves-window-clauses`).
use Rattle.api.proofs.Kept.{moves-window-clauses}
use Rattle.moves_asked.specs.Asked.{Moves-asked}
use borrow.Author.Rules.{rules}
use Rattle.api.proofs.jellyplain_moves_window_cover.Goals as goal

pub returns : goal.returns
returns c = let a = c.args in let asked = c.asked in let cover = c.cover in let bounds = c.bounds in let all = moves-window-clauses (Moves-asked a.moves.now) a.b.now a.depth (record { earlier = a.earlier; later = a.later }) _ _ a.bounds.now
    (rw (c.put_bounds.ensures.refusal, cover.ensures.value, bounds.ensures.value, asked.ensures.value))
    (rw (c.put_bounds.ensures.left, cover.ensures.value, bounds.ensures.value, asked.ensures.value)) in record { refusal = all.0; left = all.1.0; kept = all.1.1.0; contains_motion = all.1.1.1.0; finer = all.1.1.1.1 }
