-- `line_end` is the place of the next line feed. The invariant: from `i` on it is the same place as from `at` on.
use Prim.Native.Nat.{◌+◌}
use mathlib.Core.Path.{◌≡◌}
use lib.ListN.{drop}
use Rattle.hexadecimal.specs.Digit.{position}
use Rattle.motion_file.specs.Text.{line_feed}
use Rattle.motion_file.proofs.line_end.Given as goal

abbrev pub invariant-loop-i : goal.invariant-loop-i
invariant-loop-i l = l.i + position line_feed (drop l.i l.s) ≡ l.at + position line_feed (drop l.at l.s)
