-- What has to unfold for the motion box of a given move to be worked out by computing, as one group:
-- a case says `unfolding computing`. The arc cosine's search is not in it.
use Rattle.float32.specs.Lerp.{lerp}
use Rattle.transform.specs.control_flow.Loop.{loop}
use Rattle.bounds_query.specs.means.Computing as query
use Rattle.zero_search.specs.means.Computing as zeros
use Rattle.motion_point.specs.means.Computing as motion
use Rattle.motion_bounds.specs.MotionBounds.{DerivativeTerm-eval, BoundsAnswer-from_ends, axis_search, point_at, union_zero, union_zeros}
use Rattle.motion_bounds.specs.MotionBounds.{union_axis, point_bounds, union_corner, union_corners, box_bounds, bound_point_motion, motion_bounds}
use Rattle.motion_bounds.specs.Examined.{point_examined, corners_examined, box_examined}
use Rattle.motion_bounds.specs.Answer.{BoundsAnswer-counted}

unfoldable pub computing : Unit {0}
unfolding lerp loop query.computing zeros.computing motion.computing DerivativeTerm-eval BoundsAnswer-from_ends axis_search point_at union_zero union_zeros union_axis
    point_bounds union_corner union_corners box_bounds bound_point_motion motion_bounds point_examined corners_examined box_examined BoundsAnswer-counted
computing = tt
