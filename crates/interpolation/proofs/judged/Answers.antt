-- `judged` meets its contract: one test chooses.
use Rattle.interpolation.specs.Interpolate.{TransformAnswer-judged}
use borrow.Author.Rules.{rules}
use Rattle.interpolation.proofs.judged.Goals as goal

pub returns-then-is_finite : goal.returns-then-is_finite
unfolding TransformAnswer-judged
returns-then-is_finite c = record { value = rw (← c.is_finite.ensures.value, c.if-is_finite.true) }

pub returns-else-is_finite : goal.returns-else-is_finite
unfolding TransformAnswer-judged
returns-else-is_finite c = record { value = rw (← c.is_finite.ensures.value, c.if-is_finite.false) }
