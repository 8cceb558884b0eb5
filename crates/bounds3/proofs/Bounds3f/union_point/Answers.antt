-- `union_point` meets its contract: the least and the greatest, by `min` and `max` of points.
use Rattle.bounds3.specs.Bounds3f.{Bounds3f-union_point}
use Rattle.bounds3.proofs.Bounds3f.union_point.Goals as goal

pub returns : goal.returns
unfolding Bounds3f-union_point
returns c = record { value = rw (c.min-p_min.ensures.value, c.max-p_max.ensures.value) }
