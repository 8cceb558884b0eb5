-- `is_finite` meets its contract: a call for each corner.
use Rattle.bounds3.specs.Finite.{Bounds3f-is_finite}
use Rattle.bounds3.proofs.Bounds3f.is_finite.Goals as goal

pub returns : goal.returns
unfolding Bounds3f-is_finite
returns c = record { value = rw (c.is_finite.ensures.value, c.is_finite-2.ensures.value) }
