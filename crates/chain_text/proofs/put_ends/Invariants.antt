-- `put_ends` puts the lines of the moves' ends. The invariant: the first i of them stand in `out`, and are 32-bit floats.
use Prim.Native.Nat.{◌*◌}
use mathlib.Core.Path.{◌≡◌}
use mathlib.Core.List.{map}
use lib.ListN.{length, take}
use lib.Seq.{paste}
use Rattle.chain_rows.specs.motion_chain.Built.{Each}
use Rattle.file_text.specs.Text.{pose_columns}
use Rattle.file_text.specs.RoundTrip.{Floats}
use Rattle.chain_text.specs.means.Lines.{Rows-end_values}
use Rattle.chain_text.proofs.Lines.{ends_text}
use Rattle.chain_text.proofs.put_ends.Given as goal

abbrev pub invariant-loop-i : goal.invariant-loop-i
invariant-loop-i l =
    (length l.out ≡ length l.initial.out) × (l.out ≡ paste l.initial.out 183 (ends_text l.moves) (126 * l.i))
    × Each (Floats pose_columns) (map Rows-end_values (take l.i l.moves))
