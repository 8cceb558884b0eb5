-- `take_slices` meets its contract. The invariant: the first k slices are taken over the boxes in front.
use Rattle.motion_fronts.proofs.Sliced.{Sliced}
use Rattle.motion_fronts.proofs.take_slices.Given as goal

abbrev pub invariant-loop-k : goal.invariant-loop-k
invariant-loop-k l = Sliced l.m l.a l.boxes l.d l.initial.reached l.initial.places l.k l.places l.reached
