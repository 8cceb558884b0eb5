-- The range assertions of 000's `Interval::sin` and `Interval::cos`, as a test of their interval, and that they hold whenever a move's zeros are searched for:
-- `Interval-asserted`, `AssertionsHold`. Definitions only.
use Rattle.std.specs.Prelude.{◌≡◌, Bool, ◌&&◌, T, Float}
use Rattle.std.specs.Float.{binary32}
use Rattle.std.specs.Float.Ieee.{of_bits, le}
use Rattle.zero_search.specs.float32.Operators.{◌⊗◌, positive_zero}
use Rattle.zero_search.specs.interval.declared.Interval.{Interval}
use Rattle.zero_search.specs.interval.Interval.{pi}
use Rattle.zero_search.specs.motion_derivative.declared.MotionDerivative.{MotionDerivative}
use Rattle.zero_search.specs.motion_derivative.Derivative.{MotionDerivative-angles}
use Rattle.motion_point.specs.animated_transform.declared.AnimatedTransform.{AnimatedTransform}
use Rattle.motion_point.specs.TransformPoint.{AnimatedTransform-constants}
use Rattle.search_range.specs.Examined.{Examined}

-- 2.0001 * PI, in f32: 0x400001a3 is the float nearest to 2.0001, and the product is 0x40c9126d, somewhat more than a full turn.
abbrev pub range_limit : Float
range_limit = of_bits binary32 0x400001a3 ⊗ pi

-- Interval::sin and Interval::cos both begin: assert!(self.low >= 0.0); assert!(self.high <= 2.0001 * PI);
abbrev pub Interval-asserted : Interval → Bool
Interval-asserted X = le positive_zero X.low && le X.high range_limit

-- The assertions hold for the angles of every interval that a search with the move's theta examines, whatever c1 to c5 are: so for every point, on each axis.
abbrev pub AssertionsHold : AnimatedTransform → Type 0
AssertionsHold m = (f : MotionDerivative) (j : Interval) → f.theta ≡ (AnimatedTransform-constants m).theta
    → Examined f j → T (Interval-asserted (MotionDerivative-angles f j))
