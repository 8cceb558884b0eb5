-- A stretch of times asked of one kept move, whatever its rows: what it answers, `Rows-transform_points`, and what putting the points leaves, `Rows-points_put`.
-- Definitions only.
use Rattle.std.specs.Prelude.{◌*◌, cond, List, map, eqb, length, Float}
use Rattle.matrix4x4.specs.Rows.{Rows}
use Rattle.bounds3.specs.declared.Point3f.{Point3f}
use Rattle.transform.specs.Answer.{PointAnswer, PointAnswer-point}
use Rattle.motion_rows.specs.TransformPoint.{Rows-transform_point}
use Rattle.motion_chain.specs.Times.{places_per_time, PointsAnswer, points_at, Points-list}

-- as `AnimatedTransform-transform_points`
abbrev pub Rows-transform_points : Rows → List Float → Point3f → PointsAnswer
Rows-transform_points rows times p = points_at (λ t. Rows-transform_point rows t p) times

-- The floats of the points that a query answers at each time, of the origin where it refuses.
unfoldable pub floats_at : (Float → PointAnswer) → List Float → List Float
floats_at query times = Points-list (map (λ t. PointAnswer-point (query t)) times)

-- document 02, "Poses in a chain": "That move's points go straight into its own part of the lent answers, three places a time".
-- `old` is what stood in them, and stands in them where they aren't three places a time.
unfoldable pub Rows-points_put : Rows → List Float → Point3f → List Float → List Float
Rows-points_put rows times p old = cond (eqb (length old) (places_per_time * length times)) (floats_at (λ t. Rows-transform_point rows t p) times) old
