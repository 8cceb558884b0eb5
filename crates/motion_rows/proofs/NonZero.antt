-- No point query of a kept move is refused with 0, whatever its rows: `rows-point-nonzero`.
use Rattle.std.specs.Prelude.{Err}
use mathlib.Core.Bool.{not, ◌||◌}
use lib.Ieee.{Float, is_nan}
use Rattle.transform.proofs.control_flow.Choice.{cond-keeps}
use Rattle.matrix4x4.specs.Rows.{Rows}
use Rattle.bounds3.specs.declared.Point3f.{Point3f}
use Rattle.bounds3.specs.Finite.{Point3f-is_finite}
use Rattle.motion_point.proofs.NonZero.{PointAnswer-NonZero, six-nonzero, moved-point-nonzero}
use Rattle.motion_rows.specs.Rows.{AnimatedTransform-from_rows, PoseConstants-from_rows}
use Rattle.motion_rows.specs.TransformPoint.{Rows-transform_point}

pub rows-point-nonzero : (rows : Rows) (time : Float) (p : Point3f) → PointAnswer-NonZero (Rows-transform_point rows time p)
unfolding Rows-transform_point
rows-point-nonzero rows time p =
    cond-keeps PointAnswer-NonZero (is_nan time || not (Point3f-is_finite p)) (Err 6) _ six-nonzero
    (moved-point-nonzero (AnimatedTransform-from_rows rows) (PoseConstants-from_rows rows) time p)
