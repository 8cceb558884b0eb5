-- `add_window` meets its contract. The invariant: the masks before i have their digit.
use Rattle.reach_kept.proofs.Masks.{Adding}
use Rattle.reach_kept.proofs.add_window.Given as goal

abbrev pub invariant-loop-i : goal.invariant-loop-i
invariant-loop-i l = Adding l.k l.initial.added l.named-items l.added l.i
