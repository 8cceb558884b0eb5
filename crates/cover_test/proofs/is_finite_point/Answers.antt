-- `is_finite_point` meets its contract: a call for each coordinate.
use Rattle.bounds3.specs.Finite.{Point3f-is_finite}
use Rattle.cover_test.proofs.is_finite_point.Goals as goal

pub returns : goal.returns
unfolding Point3f-is_finite
returns c = record { value = rw (c.is_finite.ensures.value, c.is_finite-2.ensures.value, c.is_finite-3.ensures.value); numbers = (c.is_finite.ensures.number, (c.is_finite-2.ensures.number, (c.is_finite-3.ensures.number, tt))) }
