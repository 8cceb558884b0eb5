-- `put_floats` puts a text of floats. The invariant: the first k of them stand in `out` from `at` on.
use Prim.Native.Nat.{◌*◌}
use mathlib.Core.Path.{◌≡◌}
use lib.ListN.{take}
use lib.Seq.{paste}
use Rattle.answer_lines.specs.Pieces.{spaced_floats}
use Rattle.answer_lines.proofs.put_floats.Given as goal

abbrev pub invariant-loop-k : goal.invariant-loop-k
invariant-loop-k l = l.out ≡ paste l.initial.out l.at (spaced_floats (take l.count l.values)) (9 * l.k)
