-- `is_finite` meets its contract: each call tests an axis.
use Rattle.coefficients.specs.IsFinite.{Coefficients-is_finite}
use Rattle.coefficients.proofs.Coefficients.is_finite.Goals as goal

pub returns : goal.returns
unfolding Coefficients-is_finite
returns c = record { value = rw (c.is_finite-3.ensures.value, c.is_finite-2.ensures.value, c.is_finite.ensures.value) }
