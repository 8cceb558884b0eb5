-- `jellyplain_moves_covers` meets its contract: that of `covers` of the asked moves.
use borrow.Author.Rules.{rules}
use Rattle.api.proofs.jellyplain_moves_covers.Goals as goal

pub returns : goal.returns
returns c = record { refusal = rw c.asked.ensures.value at c.covers.ensures.refusal; covers = rw c.asked.ensures.value at c.covers.ensures.covers; union = rw c.asked.ensures.value at c.covers.ensures.union; contains_motion = rw c.asked.ensures.value at c.covers.ensures.contains_motion; finer = rw c.asked.ensures.value at c.covers.ensures.finer }
