-- `max` meets its contract: a call for each coordinate.
use Rattle.bounds3.specs.Point3f.{Point3f-max}
use Rattle.bounds3.proofs.Point3f.max.Goals as goal

pub returns : goal.returns
unfolding Point3f-max
returns c = record { value = rw (c.max.ensures.value, c.max-2.ensures.value, c.max-3.ensures.value) }
