-- `put_values` pastes a line of values. The invariant: the first k of them, each with what stands behind it, stand in `out` from `at` on.
use Prim.Native.Nat.{◌*◌}
use mathlib.Core.Path.{◌≡◌}
use lib.ListN.{length}
use lib.Seq.{paste}
use Rattle.motion_text.proofs.Written.{values_line}
use Rattle.motion_text.proofs.put_values.Given as goal

abbrev pub invariant-loop-k : goal.invariant-loop-k
invariant-loop-k l = (length l.out ≡ length l.initial.out) × (l.out ≡ paste l.initial.out l.at (values_line l.values) (9 * l.k))
