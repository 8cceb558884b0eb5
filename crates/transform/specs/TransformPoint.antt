-- pbrt's `transform_point`: the matrix half of a transform times (x, y, z, 1), divided by the fourth coordinate. Definitions only.
use Rattle.std.specs.Prelude.{cond, Float, Ok, Err}
use Rattle.std.specs.Float.Ieee.{eq}
use Rattle.bounds3.specs.float32.Operators.{◌⊕◌, ◌⊗◌, one}
use Rattle.matrix4x4.specs.Rows.{Row, Rows, row, col, Matrix4x4-to_rows}
use Rattle.bounds3.specs.declared.Point3f.{Point3f}
use Rattle.bounds3.specs.Point3f.{Point3f-div}
use Rattle.bounds3.specs.Finite.{Point3f-is_finite}
use Rattle.transform.specs.declared.Transform.{Transform}
use Rattle.transform.specs.Answer.{PointAnswer}

-- A row times (x, y, z, 1): one of the sums xp, yp, zp and wp.
abbrev pub mul_point : Row → Point3f → Float
mul_point r p = p.x ⊗ col r 0 ⊕ p.y ⊗ col r 1 ⊕ p.z ⊗ col r 2 ⊕ col r 3

-- The point (xp, yp, zp) where wp is 1, and (xp, yp, zp) / wp otherwise.
unfoldable pub moved_point : Rows → Point3f → Point3f
moved_point m p =
    let q : Point3f = record { x = mul_point (row m 0) p; y = mul_point (row m 1) p; z = mul_point (row m 2) p } in
    let wp = mul_point (row m 3) p in
    cond (eq wp one) q (Point3f-div q wp)

-- document 01, Refusals, 5: an "answer holds a value that isn't finite"
unfoldable pub PointAnswer-judged : Point3f → PointAnswer
PointAnswer-judged q = cond (Point3f-is_finite q) (Ok q) (Err 5)

-- `Transform::transform_point`
unfoldable pub Transform-transform_point : Transform → Point3f → PointAnswer
Transform-transform_point t p = PointAnswer-judged (moved_point (Matrix4x4-to_rows t.m) p)
