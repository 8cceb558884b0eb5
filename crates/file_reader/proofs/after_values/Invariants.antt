-- `after_values` leads through lines of values. The invariant: from the i-th on they lead where all of them do.
use mathlib.Core.Path.{◌≡◌}
use lib.ListN.{length, replicate}
use Rattle.motion_file.specs.Layout.{values}
use Rattle.motion_file.specs.means.Place.{through}
use Rattle.motion_file.proofs.Lines.{place_from}
use Rattle.file_reader.proofs.after_values.Given as goal

abbrev pub invariant-loop : goal.invariant-loop
invariant-loop l =
    (length l.scratch ≡ length l.initial.scratch)
    × (place_from (values (length l.initial.scratch)) l.s l.count l.counter l.place ≡ through (replicate l.count (values (length l.initial.scratch))) l.s l.at)
