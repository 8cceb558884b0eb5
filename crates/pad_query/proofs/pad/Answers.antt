-- `pad` meets its contract: `time != time` is the test for NaN (`differs-nan`).
use Rattle.float32.proofs.rounding.Order.{differs-nan}
use Rattle.pad_query.specs.PadQuery.{AnimatedTransform-pad, Rows-pad}
use borrow.Author.Rules.{rules}
use Rattle.pad_query.proofs.pad.Goals as goal

pub returns-then-time : goal.returns-then-time
unfolding AnimatedTransform-pad Rows-pad
returns-then-time c = record { value = rw (← differs-nan c.args.time, c.if-time.true) }

pub returns : goal.returns
unfolding AnimatedTransform-pad Rows-pad
returns c = record { value = rw (← differs-nan c.args.time, c.if-time.false, ← c.pad_at.ensures.value, c.judged.ensures.value) }
