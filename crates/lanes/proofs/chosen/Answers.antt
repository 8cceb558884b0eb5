-- `chosen` meets its contract: the case that the test chose.
use Rattle.lanes.specs.means.Lanes.{Lanes-chosen}
use Rattle.lanes.proofs.chosen.Goals as goal

pub returns-then-first : goal.returns-then-first
unfolding Lanes-chosen
returns-then-first c = record { value = rw c.if-first.true }

pub returns-else-first : goal.returns-else-first
unfolding Lanes-chosen
returns-else-first c = record { value = rw c.if-first.false }
