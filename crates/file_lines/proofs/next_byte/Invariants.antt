-- `next_byte` is the next place of the line once each run of spaces is one. The invariant: what stands before `i` is worth one space.
use mathlib.Core.Path.{◌≡◌}
use mathlib.Core.List.{◌∷◌}
use lib.ListN.{drop, get_or}
use Rattle.motion_file.specs.Text.{space, single_spaced}
use Rattle.file_lines.proofs.next_byte.Given as goal

abbrev pub invariant-loop-i : goal.invariant-loop-i
invariant-loop-i l =
    (get_or l.line l.at 0 ≡ space) × (single_spaced (drop l.at l.line) ≡ single_spaced (space ∷ drop l.i l.line))
