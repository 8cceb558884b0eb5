-- What the times of a stretch have in common, by the rows of its move: `Stretch-of`. Definitions only.
use Rattle.matrix4x4.specs.Rows.{Rows}
use Rattle.pose_slerp.specs.means.Unjudged.{Perpendicular-of}
use Rattle.motion_rows.specs.Rows.{AnimatedTransform-from_rows, PoseConstants-from_rows}
use Rattle.stretch_points.specs.declared.Stretch.{Stretch}

unfoldable pub Stretch-of : Rows → Stretch
Stretch-of rows =
    let a = PoseConstants-from_rows rows in
    let m = AnimatedTransform-from_rows rows in
    record { a = a; perp = (Perpendicular-of a.r0 a.r1 a.cos_theta).q; s0 = m.s0; s1 = m.s1 }
