-- `judged` meets its contract: its test is the definition's.
use Rattle.matrix_inverse.specs.Inverse.{InverseAnswer-judged}
use Rattle.matrix_inverse.proofs.judged.Goals as goal

pub returns-then-is_finite : goal.returns-then-is_finite
unfolding InverseAnswer-judged
returns-then-is_finite c = record { value = rw (← c.is_finite.ensures.value, c.if-is_finite.true) }

pub returns-else-is_finite : goal.returns-else-is_finite
unfolding InverseAnswer-judged
returns-else-is_finite c = record { value = rw (← c.is_finite.ensures.value, c.if-is_finite.false) }
