-- `greater` meets its contract: each return is the case that the comparison chose.
use mathlib.Core.Path.{sym, ap}
use mathlib.Core.Bool.{Bool, cond}
use Rattle.interval_unjudged.specs.means.Ordered.{greater}
use Rattle.interval_unjudged.proofs.greater.Goals as goal

pub returns-then-x-y : goal.returns-then-x-y
unfolding greater
returns-then-x-y c = record { value = sym (ap (λ (b : Bool). cond b c.args.y c.args.x) c.if-x-y.true) }

pub returns-else-x-y : goal.returns-else-x-y
unfolding greater
returns-else-x-y c = record { value = sym (ap (λ (b : Bool). cond b c.args.y c.args.x) c.if-x-y.false) }
