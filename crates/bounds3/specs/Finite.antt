-- Whether every coordinate of a point, or of a box's two corners, is finite: as a test, and of a point also axis by axis, `Finite`. Definitions only.
use Rattle.std.specs.Prelude.{Bool, ◌&&◌, T}
use Rattle.std.specs.Float.Ieee.Scale.{finite}
use Rattle.bounds3.specs.declared.Point3f.{Point3f}
use Rattle.bounds3.specs.declared.Bounds3f.{Bounds3f}

-- document 01, Refusals: 6 where "a coordinate is not finite", 5 where an answer "holds a value that isn't finite"
unfoldable pub Point3f-is_finite : Point3f → Bool
Point3f-is_finite p = finite p.x && finite p.y && finite p.z

unfoldable pub Bounds3f-is_finite : Bounds3f → Bool
Bounds3f-is_finite b = Point3f-is_finite b.p_min && Point3f-is_finite b.p_max

pub record Finite (p : Point3f) : Type 0 where
  pub x : T (finite p.x)
  pub y : T (finite p.y)
  pub z : T (finite p.z)
