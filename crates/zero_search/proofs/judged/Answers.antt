-- `judged` meets its contract: one return for each outcome of its test.
use borrow.Author.Tests.{eq-eqb, ne_eqb}
use Rattle.zero_search.specs.Search.{Search-judged}
use Rattle.zero_search.proofs.judged.Goals as goal

pub returns-then-zeros-eq0 : goal.returns-then-zeros-eq0
unfolding Search-judged
returns-then-zeros-eq0 c = record { value = rw (eq-eqb _ _ c.if-zeros-eq0.true) }

pub returns : goal.returns
unfolding Search-judged
returns c = record { value = rw (c.empty-zeros.ensures.value, ne_eqb _ _ c.if-zeros-eq0.false) }
