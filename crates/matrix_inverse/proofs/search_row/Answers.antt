-- `search_row` meets its contract. The invariant: `best` is the best of the columns below k.
use Prim.Native.Nat.{◌-◌}
use native.Mathlib.Omega.{arith}
use borrow.Author.Tests.{eq-eqb, ne_eqb}
use Rattle.matrix_inverse.specs.Pivot.{search_row}
use Rattle.control_flow.proofs.Loop.{loop-start, loop-next, loop-end}
use borrow.Author.Rules.{rules}
use Rattle.matrix_inverse.proofs.search_row.Goals as goal

pub returns-then-ipiv-j-eq1 : goal.returns-then-ipiv-j-eq1
unfolding search_row
returns-then-ipiv-j-eq1 c = record { value = rw (eq-eqb _ _ c.if-ipiv-j-eq1.true) }

pub loop-k-init : goal.loop-k-init
loop-k-init c = (search rules, loop-start _ _)

pub loop-k-preserved : goal.loop-k-preserved
loop-k-preserved c = (search rules, loop-next _ _ _ _ _ c.loop-k.invariant.1 c.consider-best.ensures.value)

pub returns : goal.returns
unfolding search_row
returns c = record { value = rw (ne_eqb _ _ c.if-ipiv-j-eq1.false) (loop-end _ _ 4 _ _ (omega arith) c.loop-k.invariant.1) }
