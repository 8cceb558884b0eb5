-- `is_names` compares a line, single-spaced, with the names. The invariant: they are the same where they are so from `at` and from `i` on.
use Prim.Native.Nat.{◌≤◌}
use mathlib.Core.Path.{◌≡◌}
use lib.ListN.{length}
use Rattle.file_lines.proofs.Names.{same_from}
use Rattle.file_lines.proofs.is_names.Given as goal

abbrev pub invariant-loop-byte : goal.invariant-loop-byte
invariant-loop-byte l = (l.at ≤ length l.line) × (same_from l.line l.text 0 0 ≡ same_from l.line l.text l.at l.byte-index)
