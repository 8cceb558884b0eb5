-- `min` meets its contract: `x != x` is the test for NaN (`differs-nan`), and each return is the case of the definition that its tests chose.
use mathlib.Core.Path.{sym, ap}
use mathlib.Core.Bool.{Bool, cond}
use Rattle.float32.specs.MinMax.{min_num}
use Rattle.rounding.proofs.Order.{differs-nan}
use Rattle.float32.proofs.min.Goals as goal

pub returns-then-x : goal.returns-then-x
unfolding min_num
returns-then-x c = record { value = rw (← differs-nan c.args.x, c.if-x.true) }

pub returns-then-y-x : goal.returns-then-y-x
unfolding min_num
returns-then-y-x c = record {
  value = let a = c.args in
      rw (← differs-nan a.x, c.if-x.false) (sym (ap (λ (b : Bool). cond b a.y a.x) c.if-y-x.true));
}

pub returns-else-y-x : goal.returns-else-y-x
unfolding min_num
returns-else-y-x c = record {
  value = let a = c.args in
      rw (← differs-nan a.x, c.if-x.false) (sym (ap (λ (b : Bool). cond b a.y a.x) c.if-y-x.false));
}
