-- `first_refusal` meets its contract. The invariant: the number of the boxes from b on is that of all.
use mathlib.Core.Path.{◌≡◌}
use Rattle.reach_kept.proofs.Judged.{number_from}
use Rattle.reach_kept.proofs.first_refusal.Given as goal

abbrev pub invariant-loop-b : goal.invariant-loop-b
invariant-loop-b l = number_from l.boxes l.b-index ≡ number_from l.boxes 0
