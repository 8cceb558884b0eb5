-- `judged` meets its contract: its test is the definition's.
use Rattle.rotation_arc.specs.ArcCoefficients.{CoefficientsAnswer-judged}
use Rattle.rotation_arc.proofs.judged.Goals as goal

pub returns-then-is_finite : goal.returns-then-is_finite
unfolding CoefficientsAnswer-judged
returns-then-is_finite c = record { value = rw (rw (c.is_finite.ensures.value, c.is_finite-2.ensures.value) at c.if-is_finite.true) }

pub returns-else-is_finite : goal.returns-else-is_finite
unfolding CoefficientsAnswer-judged
returns-else-is_finite c = record { value = rw (rw (c.is_finite.ensures.value, c.is_finite-2.ensures.value) at c.if-is_finite.false) }
