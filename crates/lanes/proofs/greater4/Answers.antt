-- `greater4` meets its contract: lane by lane.
use borrow.Author.Rules.{rules}
use Rattle.lanes.proofs.greater4.Goals as goal

pub returns : goal.returns
returns c = record { value = rw (c.greater-4.ensures.value, c.greater-3.ensures.value, c.greater-2.ensures.value, c.greater.ensures.value) }
