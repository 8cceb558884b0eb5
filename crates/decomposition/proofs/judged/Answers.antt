-- `judged` meets its contract: its test is the definition's.
use Rattle.decomposition.specs.Decompose.{Decomposition-judged}
use Rattle.decomposition.proofs.judged.Goals as goal

pub returns-then-is_finite : goal.returns-then-is_finite
unfolding Decomposition-judged
returns-then-is_finite c = record { value = rw (rw (c.is_finite.ensures.value, c.is_finite-2.ensures.value) at c.if-is_finite.true, c.from-rows.ensures) }

pub returns-else-is_finite : goal.returns-else-is_finite
unfolding Decomposition-judged
returns-else-is_finite c = record { value = rw (rw (c.is_finite.ensures.value, c.is_finite-2.ensures.value) at c.if-is_finite.false) }
