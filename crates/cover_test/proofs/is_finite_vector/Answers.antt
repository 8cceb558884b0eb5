-- `is_finite_vector` meets its contract: a call for each component.
use Rattle.cover_lean.specs.means.Test.{Vector3f-is_finite}
use Rattle.cover_test.proofs.is_finite_vector.Goals as goal

pub returns : goal.returns
unfolding Vector3f-is_finite
returns c = record { value = rw (c.is_finite.ensures.value, c.is_finite-2.ensures.value, c.is_finite-3.ensures.value); numbers = (c.is_finite.ensures.number, (c.is_finite-2.ensures.number, (c.is_finite-3.ensures.number, tt))) }
