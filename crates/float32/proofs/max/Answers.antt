-- `max` meets its contract: `x != x` is the test for NaN (`differs-nan`), and each return is the case of the definition that its tests chose.
use Rattle.float32.specs.MinMax.{max_num}
use Rattle.rounding.proofs.Order.{differs-nan}
use Rattle.float32.proofs.max.Goals as goal

pub returns-then-x : goal.returns-then-x
unfolding max_num
returns-then-x c = record { value = rw (← differs-nan c.args.x, c.if-x.true) }

pub returns-then-x-y : goal.returns-then-x-y
unfolding max_num
returns-then-x-y c = record { value = rw (← differs-nan c.args.x, c.if-x.false, c.if-x-y.true) }

pub returns-else-x-y : goal.returns-else-x-y
unfolding max_num
returns-else-x-y c = record { value = rw (← differs-nan c.args.x, c.if-x.false, c.if-x-y.false) }
