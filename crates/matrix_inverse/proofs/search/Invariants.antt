-- `search` meets its contract. The invariant: `best` is the best of the rows below j. Its place is in range by `search-in_range`.
use Prim.Native.Nat.{◌≤◌, ◌-◌}
use mathlib.Core.Path.{◌≡◌}
use Rattle.control_flow.specs.Loop.{loop}
use Rattle.matrix_inverse.specs.Pivot.{search_row}
use Rattle.matrix_inverse.proofs.search.Given as goal

abbrev pub invariant-loop-j : goal.invariant-loop-j
invariant-loop-j l = (l.j ≤ 4) × (l.best ≡ loop (search_row l.m l.ipiv) l.j l.initial.best)

abbrev pub decreases-loop-j : goal.decreases-loop-j
decreases-loop-j l = 4 - l.j
