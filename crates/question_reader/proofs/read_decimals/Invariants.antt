-- `read_decimals` reads number by number. The invariant: what is left of the line gives what the line gives.
use Prim.Native.Nat.{◌-◌, ◌≤◌}
use mathlib.Core.Path.{◌≡◌}
use Rattle.question_reader.specs.Question.{decimals_end, decimals_stored}
use Rattle.question_reader.proofs.read_decimals.Given as goal

abbrev pub invariant-loop-k : goal.invariant-loop-k
invariant-loop-k l =
    (l.count ≤ 4) × (decimals_end (l.count - l.k) l.line l.end ≡ decimals_end l.count l.line l.at)
    × (decimals_stored (l.count - l.k) l.k l.line l.end l.wholes ≡ decimals_stored l.count 0 l.line l.at l.initial.wholes)
