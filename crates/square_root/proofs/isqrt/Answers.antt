-- The invariant: the root is at most x, and y is Heron's mean of x and n / x (`Iterate`). A mean that is no smaller than x shows that x is the root.
use mathlib.Core.Path.{refl}
use native.Mathlib.Nat.{div-le_self}
use native.Mathlib.Omega.{arith}
use Rattle.square_root.proofs.Heron.{isqrt-lt, mean-pos, iterate-next, iterate-last}
use Rattle.square_root.proofs.isqrt.Goals as goal

pub loop-y-init : goal.loop-y-init
loop-y-init c = record { above = omega (arith, isqrt-lt c.args.n c.requires.fact_2); small = omega arith; mean = refl }

pub nonzero_div-y-in-loop-y : goal.nonzero_div-y-in-loop-y
nonzero_div-y-in-loop-y c = mean-pos c.args.n c.requires.fact_1 c.loop-y.invariant

pub overflow_add-y-in-loop-y : goal.overflow_add-y-in-loop-y
overflow_add-y-in-loop-y c = let l = div-le_self c.args.n c.loop-y.y in omega (arith, l)

pub loop-y-preserved : goal.loop-y-preserved
loop-y-preserved c = iterate-next c.args.n c.requires.fact_1 c.loop-y.invariant c.loop-y-test.true

pub returns : goal.returns
returns c = iterate-last c.args.n c.requires.fact_1 c.loop-y.invariant c.loop-y-test.false
