-- `bound_point_motion` meets its contract: one test of the point.
use Rattle.motion_bounds.specs.MotionBounds.{bound_point_motion}
use Rattle.motion_bounds.specs.Answer.{BoundsAnswer-counted}
use Rattle.motion_bounds.proofs.bound_point_motion.Goals as goal

pub returns-then-not-is_finite : goal.returns-then-not-is_finite
unfolding bound_point_motion BoundsAnswer-counted
returns-then-not-is_finite c = record { value = rw (← c.is_finite.ensures.value, c.if-not-is_finite.true) }

pub returns : goal.returns
unfolding bound_point_motion
returns c = record { value = rw (← c.is_finite.ensures.value, c.if-not-is_finite.false, c.point_bounds.ensures.value, c.constants.ensures.value) }
