-- `is_finite` meets its contract: each call tests a term.
use Rattle.axis_derivative.specs.IsFinite.{Derivative-is_finite}
use Rattle.axis_derivative.proofs.Derivative.is_finite.Goals as goal

pub returns : goal.returns
unfolding Derivative-is_finite
returns c = record { value = rw (c.is_finite-5.ensures.value, c.is_finite-4.ensures.value, c.is_finite-3.ensures.value, c.is_finite-2.ensures.value, c.is_finite.ensures.value) }
