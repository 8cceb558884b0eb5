-- What each function of the library answers, from the arrays that it is lent: the definitions of building and of the queries at the poses,
-- the move, the points and the boxes that the arrays hold. Definitions only.
-- The rows may be any rows: the move in them is `AnimatedTransform-from_rows`, and what a point query needs of its rotations stands beside it.
use Rattle.std.specs.Prelude.{ℕ, Bool, List, Float}
use Rattle.file_reader.specs.matrix4x4.Rows.{Rows}
use Rattle.file_reader.specs.bounds3.List.{Point3f-of_list, Bounds3f-of_list}
use Rattle.lent_arrays.specs.transform.Answer.{PointAnswer}
use Rattle.lent_arrays.specs.transform.declared.BoundsAnswer.{BoundsAnswer}
use Rattle.animated_transform.specs.New.{AnimatedTransformAnswer}
use Rattle.animated_transform.specs.New.{AnimatedTransform-new}
use Rattle.motion_bounds.specs.declared.MotionBoundsAnswer.{MotionBoundsAnswer}
use Rattle.motion_bounds.specs.Answer.{AnimatedTransform-bound_point_motion, AnimatedTransform-motion_bounds}
use Rattle.chain_rows.specs.motion_cover.Cover.{AnimatedTransform-cover}
use Rattle.lent_arrays.specs.Arrays.{Pose-of_list}
use Rattle.motion_rows.specs.Rows.{AnimatedTransform-from_rows}
use Rattle.motion_rows.specs.TransformPoint.{Rows-transform_point}

abbrev pub Rows-new : Bool → List Float → List Float → AnimatedTransformAnswer
Rows-new rigid start end = AnimatedTransform-new rigid (Pose-of_list start) (Pose-of_list end)

abbrev pub Rows-point : Rows → Float → List Float → PointAnswer
Rows-point rows time p = Rows-transform_point rows time (Point3f-of_list p)

abbrev pub Rows-bound_point_motion : Rows → List Float → MotionBoundsAnswer
Rows-bound_point_motion rows p = AnimatedTransform-bound_point_motion (AnimatedTransform-from_rows rows) (Point3f-of_list p)

abbrev pub Rows-motion_bounds : Rows → List Float → MotionBoundsAnswer
Rows-motion_bounds rows b = AnimatedTransform-motion_bounds (AnimatedTransform-from_rows rows) (Bounds3f-of_list b)

abbrev pub Rows-cover : Rows → List Float → ℕ → BoundsAnswer
Rows-cover rows b depth = AnimatedTransform-cover (AnimatedTransform-from_rows rows) (Bounds3f-of_list b) depth
