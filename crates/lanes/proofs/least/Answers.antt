-- `least` meets its contract.
use borrow.Author.Rules.{rules}
use Rattle.lanes.proofs.least.Goals as goal

pub returns : goal.returns
returns c = record { value = rw (c.lesser-3.ensures.value, c.lesser-2.ensures.value, c.lesser.ensures.value) }
