-- The point query, pbrt's two-argument `AnimatedTransform::transform_point`. Definitions only.
-- A NaN time or a coordinate that isn't finite is 6. At and outside the end times, and where the poses are equal, the stored transform moves the point;
-- else the pose at dt does.
use Rattle.std.specs.Prelude.{not, ◌||◌, cond, Float, Err}
use Rattle.std.specs.Float.Ieee.{is_nan}
use Rattle.bounds3.specs.declared.Point3f.{Point3f}
use Rattle.bounds3.specs.Finite.{Point3f-is_finite}
use Rattle.transform.specs.Answer.{PointAnswer}
use Rattle.transform.specs.TransformPoint.{Transform-transform_point}
use Rattle.unit_interval.specs.Unit.{dt}
use Rattle.pose_steps.specs.declared.PoseConstants.{PoseConstants}
use Rattle.pose_steps.specs.Pose.{PoseConstants-new, Pose-moved_point}
use Rattle.animated_transform.specs.declared.AnimatedTransform.{AnimatedTransform}
use Rattle.animated_transform.specs.AtTime.{at_start, at_end}

-- The constants of the pose between: what `slerp` works out anew at each call, and the kind.
abbrev pub AnimatedTransform-constants : AnimatedTransform → PoseConstants
AnimatedTransform-constants m = PoseConstants-new m.rigid m.t0 m.t1 m.r0 m.r1

-- The work, where a are the move's constants.
unfoldable pub AnimatedTransform-moved_point : AnimatedTransform → PoseConstants → Float → Point3f → PointAnswer
AnimatedTransform-moved_point m a time p =
    cond (at_start m time) (Transform-transform_point m.start_transform p)
    (cond (at_end m time) (Transform-transform_point m.end_transform p)
    (Pose-moved_point a m.s0 m.s1 (dt m.start_time m.end_time time) p))

-- document 01, Refusals: 6 where "the time is NaN, or a coordinate is not finite"
unfoldable pub AnimatedTransform-transform_point : AnimatedTransform → Float → Point3f → PointAnswer
AnimatedTransform-transform_point m time p =
    cond (is_nan time || not (Point3f-is_finite p)) (Err 6) (AnimatedTransform-moved_point m (AnimatedTransform-constants m) time p)
