-- The point query of a kept move, whatever its rows: `Rows-transform_point`. Definitions only.
-- Of the rows of a built move it is `AnimatedTransform-transform_point`, since the constants that they hold are the move's (`transform-point-kept`).
use Rattle.std.specs.Prelude.{not, ◌||◌, cond, Float, Err}
use Rattle.std.specs.Float.Ieee.{is_nan}
use Rattle.matrix4x4.specs.Rows.{Rows}
use Rattle.bounds3.specs.declared.Point3f.{Point3f}
use Rattle.bounds3.specs.Finite.{Point3f-is_finite}
use Rattle.transform.specs.Answer.{PointAnswer}
use Rattle.motion_point.specs.TransformPoint.{AnimatedTransform-moved_point}
use Rattle.motion_rows.specs.Rows.{AnimatedTransform-from_rows, PoseConstants-from_rows}

-- document 01, Refusals, 6: "the time is NaN, or a coordinate is not finite"
unfoldable pub Rows-transform_point : Rows → Float → Point3f → PointAnswer
Rows-transform_point rows time p =
    cond (is_nan time || not (Point3f-is_finite p)) (Err 6)
    (AnimatedTransform-moved_point (AnimatedTransform-from_rows rows) (PoseConstants-from_rows rows) time p)
