-- `cut_refusal` meets its contract: its test is the definition's.
use Rattle.cut_laws.specs.Cut.{cut_refusal}
use Rattle.cut_parts.proofs.cut_refusal.Goals as goal

pub returns-then-n : goal.returns-then-n
unfolding cut_refusal
returns-then-n c = record { value = rw c.if-n.true }

pub returns : goal.returns
unfolding cut_refusal
returns c = record { value = rw c.if-n.false c.refusal.ensures.value }
