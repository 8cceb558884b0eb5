-- `point_at` meets its contract: the time, then the point.
use Rattle.motion_bounds.specs.MotionBounds.{point_at}
use Rattle.motion_bounds.proofs.point_at.Goals as goal

pub returns : goal.returns
unfolding point_at
returns c = record { value = rw (c.moved_point.ensures.value, c.lerp.ensures.value) }
