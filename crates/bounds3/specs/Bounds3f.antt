-- pbrt's Bounds3f: boxes made from points, the empty box, a box's corners, and unions. Definitions only.
-- A box is a pair of points, of which nothing is asked: the least corner may be above the greatest, as in the empty box.
use Rattle.std.specs.Prelude.{ℕ, Bool, not, cond, eqb, Float}
use Rattle.std.specs.Int.Bits.{bit_and}
use Rattle.std.specs.Float.{binary32}
use Rattle.std.specs.Float.Ieee.{of_bits, neg}
use Rattle.bounds3.specs.declared.Point3f.{Point3f}
use Rattle.bounds3.specs.declared.Bounds3f.{Bounds3f}
use Rattle.bounds3.specs.Point3f.{Point3f-min, Point3f-max}

-- `Bounds3::from_point`
abbrev pub Bounds3f-from_point : Point3f → Bounds3f
Bounds3f-from_point p = record { p_min = p; p_max = p }

-- `Bounds3f::from_points`
unfoldable pub Bounds3f-from_points : Point3f → Point3f → Bounds3f
Bounds3f-from_points p1 p2 = record { p_min = Point3f-min p1 p2; p_max = Point3f-max p1 p2 }

-- The greatest finite float, `f32::MAX`.
abbrev pub greatest_finite : Float
greatest_finite = of_bits binary32 0x7f7fffff

-- `Default for Bounds3`: from the type's greatest value to its least
abbrev pub Bounds3f-default : Bounds3f
Bounds3f-default =
    let least = neg greatest_finite in
    record { p_min = record { x = greatest_finite; y = greatest_finite; z = greatest_finite }; p_max = record { x = least; y = least; z = least } }

-- `Index for Bounds3`: 0 is the least corner and 1 the greatest
unfoldable pub Bounds3f-index : Bounds3f → Bool → Point3f
Bounds3f-index b i = cond i b.p_max b.p_min

-- `Bounds3::corner`: c & 1, c & 2 and c & 4 choose the end of x, y and z
unfoldable pub Bounds3f-corner : Bounds3f → ℕ → Point3f
Bounds3f-corner b c =
    record {
      x = (Bounds3f-index b (not (eqb (bit_and c 1) 0))).x;
      y = (Bounds3f-index b (not (eqb (bit_and c 2) 0))).y;
      z = (Bounds3f-index b (not (eqb (bit_and c 4) 0))).z;
    }

-- `Bounds3::union_point`
unfoldable pub Bounds3f-union_point : Bounds3f → Point3f → Bounds3f
Bounds3f-union_point b p = record { p_min = Point3f-min b.p_min p; p_max = Point3f-max b.p_max p }

-- `Bounds3::union_bounds`
unfoldable pub Bounds3f-union_bounds : Bounds3f → Bounds3f → Bounds3f
Bounds3f-union_bounds a b = record { p_min = Point3f-min a.p_min b.p_min; p_max = Point3f-max a.p_max b.p_max }
