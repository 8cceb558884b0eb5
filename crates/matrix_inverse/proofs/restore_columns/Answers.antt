-- `restore_columns` meets its contract. The invariant: the columns of the last i rounds are back.
use Prim.Native.Nat.{◌-◌}
use native.Mathlib.Omega.{arith}
use Rattle.matrix_inverse.specs.RestoreColumns.{restore_columns}
use Rattle.control_flow.proofs.Loop.{loop-start, loop-next, loop-end}
use borrow.Author.Rules.{rules}
use Rattle.matrix_inverse.proofs.restore_columns.Goals as goal

pub loop-i-init : goal.loop-i-init
loop-i-init c = (search rules, loop-start _ _)

pub restore_at-s-requires : goal.restore_at-s-requires
restore_at-s-requires c = (omega arith, c.requires.0, c.requires.1)

pub loop-i-preserved : goal.loop-i-preserved
loop-i-preserved c = (search rules, loop-next _ _ _ _ _ c.loop-i.invariant.1 c.restore_at-s.ensures.value)

pub returns : goal.returns
unfolding restore_columns
returns c = record { value = loop-end _ _ 4 _ _ (omega arith) c.loop-i.invariant.1 }
