-- `put_values` puts the values of a line that is one for each place of `out`. The invariant: k of them stand in `out`, and as many as it has places left
-- stand in the line from `at` on.
use Prim.Native.Nat.{◌<◌}
use mathlib.Core.Path.{◌≡◌}
use mathlib.Core.List.{map}
use lib.ListN.{length}
use Rattle.motion_file.specs.Layout.{words, value_of}
use Rattle.file_lines.proofs.ReadUpTo.{ReadUpTo}
use Rattle.file_lines.proofs.put_values.Given as goal

abbrev pub invariant-loop-k : goal.invariant-loop-k
invariant-loop-k l =
    (l.k < length l.out → ReadUpTo l.line l.out l.at l.k) × (l.k ≡ length l.out → l.out ≡ map value_of (words l.line))
