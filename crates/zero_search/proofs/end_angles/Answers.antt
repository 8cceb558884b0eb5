-- `end_angles` meets its contract: ends in order stay as they are (`new-ordered`), and at any others the angles are worked out.
use Rattle.interval.proofs.InOrder.{new-ordered}
use Rattle.zero_search.proofs.end_angles.Goals as goal

pub returns-then-i : goal.returns-then-i
returns-then-i c = record { value = rw (new-ordered _ _ c.if-i.true) c.requires }

pub returns : goal.returns
returns c = record { value = rw (← c.new-i.ensures.value) (c.end_at-low.ensures.value, c.end_at-high.ensures.value) }
