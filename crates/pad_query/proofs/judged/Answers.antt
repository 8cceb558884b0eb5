-- `judged` meets its contract: one test chooses.
use borrow.Author.Rules.{rules}
use Rattle.pad_query.specs.PadQuery.{PadAnswer-judged}
use Rattle.pad_query.proofs.judged.Goals as goal

pub returns-then-is_finite : goal.returns-then-is_finite
unfolding PadAnswer-judged
returns-then-is_finite c = record { value = rw (← c.is_finite.ensures.value, c.if-is_finite.true) }

pub returns-else-is_finite : goal.returns-else-is_finite
unfolding PadAnswer-judged
returns-else-is_finite c = record { value = rw (← c.is_finite.ensures.value, c.if-is_finite.false) }
