-- `eliminate` meets its contract. The invariant: the rows below j are cleared.
use Prim.Native.Nat.{◌≤◌, ◌-◌}
use mathlib.Core.Path.{◌≡◌}
use Rattle.control_flow.specs.Loop.{loop}
use Rattle.matrix_inverse.specs.Eliminate.{clear_at}
use Rattle.matrix_inverse.proofs.eliminate.Given as goal

abbrev pub invariant-loop-j : goal.invariant-loop-j
invariant-loop-j l = (l.j ≤ 4) × (l.r ≡ loop (clear_at l.k) l.j l.initial.r)

abbrev pub decreases-loop-j : goal.decreases-loop-j
decreases-loop-j l = 4 - l.j
