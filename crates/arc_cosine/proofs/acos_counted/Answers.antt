-- The calls in turn (`acos-value`, `acos-counted`); outside -1 to 1, and at a NaN, 0 / 0 and no cosine.
use Prim.Native.Nat.{ℕ, ◌≤◌}
use mathlib.Core.Path.{sym, subst}
use native.Mathlib.Omega.{arith}
use Rattle.arc_cosine.proofs.Values.{acos-value, acos-outside, acos-counted, acos-uncounted}
use Rattle.arc_cosine.proofs.Halving.{acos-cosines-le}
use Rattle.arc_cosine.proofs.acos_counted.Goals as goal

pub returns-then-c : goal.returns-then-c
returns-then-c c = let a = c.args.c in let f = c.biased_floor in let l = c.least_angle-least in let k = acos-counted a f.result l.result.cosines c.if-c.true f.ensures.value l.ensures.cosines in record { value = (acos-value a f.result l.result.angle c.from_fixed.result c.if-c.true f.ensures.value l.ensures.angle c.from_fixed.ensures.value, k); most = subst (λ (n : ℕ). n ≤ 31) (sym k) (acos-cosines-le a) }

pub returns : goal.returns
returns c = let a = c.args.c in record { value = (acos-outside a c.if-c.false, acos-uncounted a c.if-c.false); most = omega arith }
