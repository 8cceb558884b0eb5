-- `greatest` meets its contract.
use borrow.Author.Rules.{rules}
use Rattle.lanes.proofs.greatest.Goals as goal

pub returns : goal.returns
returns c = record { value = rw (c.greater-3.ensures.value, c.greater-2.ensures.value, c.greater.ensures.value) }
