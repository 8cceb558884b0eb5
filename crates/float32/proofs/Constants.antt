-- The constants 0 and 1: each is finite (`zero-finite`, `one-finite`) and the rounding of itself (`zero-rounds`, `one-rounds`), and 0 is no greater than itself
-- (`zero-refl`).
use mathlib.Core.Path.{refl}
use mathlib.Core.Bool.{false}
use lib.Dec.{T}
use lib.Ieee.{binary32, round, of_bits}
use lib.Ieee.Scale.{finite}
use Rattle.rounding.specs.Order.{◌≼◌}
use Rattle.rounding.proofs.Order.{≼_refl, finite_number}
use Rattle.rounding.proofs.Monotone.{Rounds}
use Rattle.float32.specs.Operators.{positive_zero, one}

pub zero-finite : T (finite positive_zero)
unfolding of_bits
zero-finite = tt

pub one-finite : T (finite one)
unfolding of_bits
one-finite = tt

pub zero-refl : positive_zero ≼ positive_zero
zero-refl = ≼_refl positive_zero (finite_number positive_zero zero-finite)

pub zero-rounds : Rounds binary32 positive_zero 0 0 1
unfolding of_bits round
zero-rounds = record { sign = false; size = 0; is = refl; value = refl }

pub one-rounds : Rounds binary32 one 1 0 1
unfolding of_bits round
one-rounds = record { sign = false; size = 1; is = refl; value = refl }
