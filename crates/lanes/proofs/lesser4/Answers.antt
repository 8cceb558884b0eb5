-- `lesser4` meets its contract: lane by lane.
use borrow.Author.Rules.{rules}
use Rattle.lanes.proofs.lesser4.Goals as goal

pub returns : goal.returns
returns c = record { value = rw (c.lesser-4.ensures.value, c.lesser-3.ensures.value, c.lesser-2.ensures.value, c.lesser.ensures.value) }
