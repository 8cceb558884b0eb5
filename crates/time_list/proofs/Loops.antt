-- The tests of a list of times, as the code makes them: of each time, `numbers`, and of neighbours, `never-falls`.
use mathlib.Core.Path.{◌≡◌, refl, ap}
use mathlib.Core.Bool.{not, ◌&&◌}
use mathlib.Core.List.{List, [], ◌∷◌}
use lib.Ieee.{Float, is_nan, le}
use Rattle.std.specs.List.{list_all}
use Rattle.motion_chain.proofs.control_flow.Neighbours.{EachNext}
use Rattle.motion_chain.specs.Chain.{every}
use Rattle.motion_chain.specs.Times.{times_are_numbers, never_falls}

-- ---- no NaN
pub numbers : (times : List Float) → list_all (λ t. not (is_nan t)) times ≡ times_are_numbers times
unfolding times_are_numbers every
numbers [] = refl
numbers (t ∷ times) = ap (λ b. not (is_nan t) && b) (numbers times)

-- ---- no fall
pub never-falls : EachNext le never_falls
unfolding never_falls
never-falls = record { none = refl; single = λ t. refl; more = λ t u times. refl }
