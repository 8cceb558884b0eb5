-- Cases of the definitions, by computing: the union of the empty box with a point is that point's box;
-- corner 6 of a box is the least in x, the greatest in y and z; a NaN is dropped by a union.
use mathlib.Core.Path.{◌≡◌, refl}
use mathlib.Core.Bool.{false}
use Prim.Native.Nat.{ℕ}
use lib.Ieee.{Float, nan, binary32, round}
use Rattle.bounds3.specs.declared.Point3f.{Point3f}
use Rattle.bounds3.specs.Bounds3f.{Bounds3f-default, Bounds3f-from_point, Bounds3f-from_points, Bounds3f-corner, Bounds3f-union_point}
use Rattle.bounds3.specs.means.Computing.{computing}

abbrev whole : ℕ → Float
whole n = round binary32 false n 1

abbrev point : Float → Float → Float → Point3f
point x y z = record { x = x; y = y; z = z }

abbrev low : Point3f
low = point (whole 1) (whole 2) (whole 3)

abbrev high : Point3f
high = point (whole 4) (whole 5) (whole 6)

empty-union : Bounds3f-union_point Bounds3f-default low ≡ Bounds3f-from_point low
unfolding computing
empty-union = refl

corner-6 : Bounds3f-corner (Bounds3f-from_points high low) 6 ≡ point (whole 1) (whole 5) (whole 6)
unfolding computing
corner-6 = refl

union-nan : Bounds3f-union_point (Bounds3f-from_point low)
    (point nan (whole 2) (whole 9)) ≡ record { p_min = low; p_max = point (whole 1) (whole 2) (whole 9) }
unfolding computing
union-nan = refl
