-- Cases of the definitions, by computing: t - 1/2, whose zero the search at depth 8 finds from both sides, and a constant, which is left out at once;
-- how many intervals each search examines.
use mathlib.Core.Path.{◌≡◌, refl}
use mathlib.Core.List.{[], ◌∷◌}
use lib.Ieee.{neg}
use Rattle.trig.specs.float32.Operators.{positive_zero, one, half}
use Rattle.zero_search.specs.Search.{interval_find_zeros}
use Rattle.zero_list.specs.Zeros.{Zeros-empty}
use Rattle.zero_search.specs.means.Computing.{computing}

constant : interval_find_zeros one positive_zero positive_zero positive_zero positive_zero positive_zero ≡ record { zeros = Zeros-empty 0; examined = 1 }
unfolding computing
constant = refl

half-from-both-sides : interval_find_zeros (neg half) positive_zero one positive_zero positive_zero positive_zero ≡ record {
  zeros = record { zeros = half ∷ half ∷ positive_zero ∷ positive_zero ∷ positive_zero ∷ positive_zero ∷ positive_zero ∷ positive_zero ∷ []; count = 2; refusal = 0 };
  examined = 31;
}
unfolding computing
half-from-both-sides = refl
