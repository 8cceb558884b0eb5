-- `piece` meets its contract. The invariant: the piece that is asked for is one of what is left, which is halved n times more.
use Rattle.reach_window.proofs.Poses.{Halving}
use Rattle.reach_window.proofs.piece.Given as goal

abbrev pub invariant-loop-n : goal.invariant-loop-n
invariant-loop-n l = Halving l.d l.k l.initial.part l.n l.rest l.part
