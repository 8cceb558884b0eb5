-- `are_values` judges a line of values. The invariant: the line is `count` values exactly where the words from `at` on are those that are left.
use Prim.Native.Nat.{suc, ◌-◌}
use mathlib.Core.Path.{◌≡◌}
use lib.ListN.{drop}
use Rattle.motion_file.specs.Layout.{words, are_values}
use Rattle.file_lines.proofs.are_values.Given as goal

abbrev pub invariant-loop : goal.invariant-loop
invariant-loop l = are_values l.count (words l.line) ≡ are_values (suc l.count - l.counter) (words (drop l.at l.line))
