-- `union_corner` meets its contract: the point is moved, then joined.
use Rattle.transform.specs.TransformBounds.{union_corner}
use Rattle.transform.proofs.Transform.union_corner.Goals as goal

pub returns : goal.returns
unfolding union_corner
returns c = record { value = rw (c.union_moved.ensures.value, c.transform_point.ensures.value) }
