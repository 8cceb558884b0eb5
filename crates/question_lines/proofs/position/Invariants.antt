-- `position` looks word by word. The invariant: so many words stand before the byte, and the place among the rest is still to be added.
use Prim.Native.Nat.{◌+◌, ◌-◌, ◌≤◌}
use mathlib.Core.Path.{◌≡◌}
use lib.ListN.{length}
use Rattle.question_lines.specs.Words.{Words-position}
use Rattle.question_lines.proofs.Positions.{from}
use Rattle.question_lines.proofs.position.Given as goal

abbrev pub invariant-loop-at : goal.invariant-loop-at
invariant-loop-at l = (l.at ≤ length l.list + 1) × (l.k ≤ l.at) × (l.k + from l.word l.list l.at ≡ Words-position l.word l.list)

abbrev pub decreases-loop-at : goal.decreases-loop-at
decreases-loop-at l = length l.list + 1 - l.at
