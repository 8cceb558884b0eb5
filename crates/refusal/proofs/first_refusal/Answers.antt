-- `first_refusal` meets its contract: one test chooses.
use Rattle.refusal.proofs.First.{first-left, first-stands}
use Rattle.refusal.proofs.first_refusal.Goals as goal

pub returns-then-a-eq0 : goal.returns-then-a-eq0
returns-then-a-eq0 c = record { value = first-left _ _ c.if-a-eq0.true }

pub returns-else-a-eq0 : goal.returns-else-a-eq0
returns-else-a-eq0 c = record { value = first-stands _ _ c.if-a-eq0.false }
