-- `part_size` meets its contract, on either side of its test.
use Rattle.motion_parts.specs.Parts.{part_size}
use Rattle.motion_parts.proofs.part_size.Goals as goal

pub returns-then-i : goal.returns-then-i
unfolding part_size
returns-then-i c = rw c.if-i.true

pub returns-else-i : goal.returns-else-i
unfolding part_size
returns-else-i c = rw c.if-i.false
