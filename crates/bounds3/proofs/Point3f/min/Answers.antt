-- `min` meets its contract: a call for each coordinate.
use Rattle.bounds3.specs.Point3f.{Point3f-min}
use Rattle.bounds3.proofs.Point3f.min.Goals as goal

pub returns : goal.returns
unfolding Point3f-min
returns c = record { value = rw (c.min.ensures.value, c.min-2.ensures.value, c.min-3.ensures.value) }
