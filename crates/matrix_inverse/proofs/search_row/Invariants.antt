-- `search_row` meets its contract. The invariant: `best` is the best of the columns below k.
use Prim.Native.Nat.{◌≤◌, ◌-◌}
use mathlib.Core.Path.{◌≡◌}
use Rattle.control_flow.specs.Loop.{loop}
use Rattle.matrix_inverse.specs.Pivot.{consider}
use Rattle.matrix_inverse.proofs.search_row.Given as goal

abbrev pub invariant-loop-k : goal.invariant-loop-k
invariant-loop-k l = (l.k ≤ 4) × (l.best ≡ loop (consider l.row l.ipiv l.j) l.k l.initial.best)

abbrev pub decreases-loop-k : goal.decreases-loop-k
decreases-loop-k l = 4 - l.k
