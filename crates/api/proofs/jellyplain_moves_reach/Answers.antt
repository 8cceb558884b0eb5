-- `jellyplain_moves_reach` meets its contract: that of `reach` of the asked moves.
use borrow.Author.Rules.{rules}
use Rattle.api.proofs.jellyplain_moves_reach.Goals as goal

pub returns : goal.returns
returns c = record { refusal = rw c.asked.ensures.value at c.reach.ensures.refusal; left = rw c.asked.ensures.value at c.reach.ensures.left; dry = rw c.asked.ensures.value at c.reach.ensures.dry; dry_always = rw c.asked.ensures.value at c.reach.ensures.dry_always; finer = rw c.asked.ensures.value at c.reach.ensures.finer; covered = rw c.asked.ensures.value at c.reach.ensures.covered }
