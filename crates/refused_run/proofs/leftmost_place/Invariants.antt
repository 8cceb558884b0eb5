-- `leftmost_place` meets its contract. Its loop keeps that no run to the left of the next place has the number.
use Rattle.refused_run.proofs.Lent.{Missed}
use Rattle.refused_run.proofs.leftmost_place.Given as goal

abbrev pub invariant-loop-place : goal.invariant-loop-place
invariant-loop-place l = Missed l.rigid l.poses l.number l.count l.place
