-- What has to unfold for an operation on given points and boxes to compute, as one group: a case says `unfolding computing`.
use Rattle.std.specs.Float.Ieee.{is_nan, lt, neg, div, round, of_bits}
use Rattle.float32.specs.MinMax.{min_num, max_num}
use Rattle.bounds3.specs.Point3f.{Point3f-min, Point3f-max}
use Rattle.bounds3.specs.Bounds3f.{Bounds3f-from_points, Bounds3f-index, Bounds3f-corner, Bounds3f-union_point, Bounds3f-union_bounds}
use Rattle.bounds3.specs.Finite.{Point3f-is_finite, Bounds3f-is_finite}

unfoldable pub computing : Unit {0}
unfolding is_nan lt neg div round of_bits min_num max_num Point3f-min Point3f-max Bounds3f-from_points Bounds3f-index Bounds3f-corner Bounds3f-union_point
    Bounds3f-union_bounds Point3f-is_finite Bounds3f-is_finite
computing = tt
