-- `boxes_refusal` meets its contract: no box before the index is refused, so that the number is that of the booms from there on.
use mathlib.Core.Path.{◌≡◌}
use Rattle.run_schedule.specs.Day.{first_box_refusal}
use Rattle.run_starts.specs.Booms.{Booms-of_lists}
use Rattle.run_starts.proofs.Booms.{booms_from}
use Rattle.run_starts.proofs.boxes_refusal.Given as goal

abbrev pub invariant-loop-corners : goal.invariant-loop-corners
invariant-loop-corners l =
    first_box_refusal (booms_from l.count l.boxes l.lengths l.corners-index) ≡ first_box_refusal (Booms-of_lists l.count l.boxes l.lengths)
