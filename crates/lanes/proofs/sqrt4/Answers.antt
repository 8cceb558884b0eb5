-- `sqrt4` meets its contract: lane by lane.
use borrow.Author.Rules.{rules}
use Rattle.lanes.proofs.sqrt4.Goals as goal

pub returns : goal.returns
returns c = record { value = rw (c.sqrt-4.ensures.value, c.sqrt-3.ensures.value, c.sqrt-2.ensures.value, c.sqrt.ensures.value) }
