-- `restore_columns` meets its contract. The invariant: the columns of the last i rounds are back.
use Prim.Native.Nat.{◌≤◌, ◌-◌}
use mathlib.Core.Path.{◌≡◌}
use Rattle.control_flow.specs.Loop.{loop}
use Rattle.matrix_inverse.specs.RestoreColumns.{restore_at}
use Rattle.matrix_inverse.proofs.restore_columns.Given as goal

abbrev pub invariant-loop-i : goal.invariant-loop-i
invariant-loop-i l = (l.i ≤ 4) × (l.r ≡ loop (restore_at l.indxr l.indxc) l.i l.initial.r)

abbrev pub decreases-loop-i : goal.decreases-loop-i
decreases-loop-i l = 4 - l.i
