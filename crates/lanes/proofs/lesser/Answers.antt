-- `lesser` meets its contract: each return is the case that the comparison chose.
use mathlib.Core.Path.{sym, ap}
use mathlib.Core.Bool.{Bool, cond}
use Rattle.interval_unjudged.specs.means.Ordered.{lesser}
use Rattle.lanes.proofs.lesser.Goals as goal

pub returns-then-y-x : goal.returns-then-y-x
unfolding lesser
returns-then-y-x c = record { value = sym (ap (λ (b : Bool). cond b c.args.y c.args.x) c.if-y-x.true) }

pub returns-else-y-x : goal.returns-else-y-x
unfolding lesser
returns-else-y-x c = record { value = sym (ap (λ (b : Bool). cond b c.args.y c.args.x) c.if-y-x.false) }
