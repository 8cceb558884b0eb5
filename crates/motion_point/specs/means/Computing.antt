-- What has to unfold for a point of a given move to be moved by computing, as one group:
-- a case says `unfolding computing`. The arc cosine's search is not in it.
use Rattle.std.specs.Float.Ieee.{is_nan, le}
use Rattle.unit_interval.specs.means.Computing as dt
use Rattle.transform.specs.means.Computing as transform
use Rattle.pose_steps.specs.means.Computing as pose
use Rattle.pose_steps.specs.Pose.{PoseConstants-new}
use Rattle.motion_point.specs.TransformPoint.{AnimatedTransform-moved_point, AnimatedTransform-transform_point}

unfoldable pub computing : Unit {0}
unfolding is_nan le dt.computing transform.computing pose.computing PoseConstants-new AnimatedTransform-moved_point AnimatedTransform-transform_point
computing = tt
