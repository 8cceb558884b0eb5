-- `is_finite_quaternion` meets its contract: a call for each component.
use Rattle.quaternion.specs.IsFinite.{Quaternion-is_finite}
use Rattle.cover_test.proofs.is_finite_quaternion.Goals as goal

pub returns : goal.returns
unfolding Quaternion-is_finite
returns c = record { value = rw (c.is_finite.ensures.value, c.is_finite-2.ensures.value, c.is_finite-3.ensures.value, c.is_finite-4.ensures.value); numbers = (c.is_finite.ensures.number, (c.is_finite-2.ensures.number, (c.is_finite-3.ensures.number, (c.is_finite-4.ensures.number, tt)))) }
