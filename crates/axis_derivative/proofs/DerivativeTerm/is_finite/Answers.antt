-- `is_finite` meets its contract: each call is the finite test of a number.
use Rattle.axis_derivative.specs.IsFinite.{DerivativeTerm-is_finite}
use Rattle.axis_derivative.proofs.DerivativeTerm.is_finite.Goals as goal

pub returns : goal.returns
unfolding DerivativeTerm-is_finite
returns c = record { value = rw (c.is_finite-4.ensures.value, c.is_finite-3.ensures.value, c.is_finite-2.ensures.value, c.is_finite.ensures.value) }
