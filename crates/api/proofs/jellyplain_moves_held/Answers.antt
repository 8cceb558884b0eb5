-- `jellyplain_moves_held` meets its contract: that of `held` of the asked moves.
use borrow.Author.Rules.{rules}
use Rattle.api.proofs.jellyplain_moves_held.Goals as goal

pub returns : goal.returns
returns c = record { value = rw c.asked.ensures.value at c.held.ensures.value; as_set = rw c.asked.ensures.value at c.held.ensures.as_set }
