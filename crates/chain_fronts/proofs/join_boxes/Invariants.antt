-- `join_boxes` meets its contract. The invariant: the boxes before i are joined.
use mathlib.Core.Path.{◌≡◌}
use Rattle.chain_fronts.specs.means.Joined.{Places-joined}
use Rattle.chain_fronts.proofs.join_boxes.Given as goal

abbrev pub invariant-loop-i : goal.invariant-loop-i
invariant-loop-i l = l.places ≡ Places-joined l.i l.moved l.initial.places
