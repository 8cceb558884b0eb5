-- `is_finite` meets its contract: an f32 is a value of binary32.
use mathlib.Core.Path.{sym, subst}
use lib.Dec.{T}
use Rattle.cover_test.proofs.is_finite.Goals as goal

pub returns : goal.returns
returns c = record { value = c.is_finite.ensures.value; number = subst T (sym c.well_formed.0.1) tt }
