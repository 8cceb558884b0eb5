-- `jellyplain_moves_join` meets its contract: that of `join` of the asked moves.
use borrow.Author.Rules.{rules}
use Rattle.api.proofs.jellyplain_moves_join.Goals as goal

pub returns : goal.returns
returns c = record { refusal = rw (c.asked.ensures.value, c.asked-2.ensures.value) at c.join.ensures.refusal; left = rw (c.asked.ensures.value, c.asked-2.ensures.value) at c.join.ensures.left; kept = rw (c.asked.ensures.value, c.asked-2.ensures.value) at c.join.ensures.kept }
