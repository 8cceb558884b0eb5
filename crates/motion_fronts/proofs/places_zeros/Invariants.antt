-- `places_zeros` meets its contract. The invariant: the zeros of the places before i are +0.
use mathlib.Core.Path.{◌≡◌}
use lib.ListN.{take}
use Rattle.motion_fronts.specs.means.Zeros.{Places-positive_zeros}
use Rattle.motion_fronts.proofs.places_zeros.Given as goal

abbrev pub invariant-loop-i : goal.invariant-loop-i
invariant-loop-i l = l.places ≡ Places-positive_zeros (take l.i l.boxes) l.initial.places
