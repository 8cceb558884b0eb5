-- `is_finite` meets its contract: a call for each coordinate.
use Rattle.bounds3.specs.Finite.{Point3f-is_finite}
use Rattle.bounds3.proofs.Point3f.is_finite.Goals as goal

pub returns : goal.returns
unfolding Point3f-is_finite
returns c = record { value = rw (c.is_finite.ensures.value, c.is_finite-2.ensures.value, c.is_finite-3.ensures.value) }
