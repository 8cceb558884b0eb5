-- `judge_dots` meets its contract: its test is the definition's.
use Rattle.rotation_arc.specs.ShorterArc.{dots_refusal}
use Rattle.rotation_arc.proofs.judge_dots.Goals as goal

pub returns-then-is_finite : goal.returns-then-is_finite
unfolding dots_refusal
returns-then-is_finite c = record { value = rw (rw (c.is_finite.ensures.value, c.is_finite-2.ensures.value) at c.if-is_finite.true) }

pub returns-else-is_finite : goal.returns-else-is_finite
unfolding dots_refusal
returns-else-is_finite c = record { value = rw (rw (c.is_finite.ensures.value, c.is_finite-2.ensures.value) at c.if-is_finite.false) }
