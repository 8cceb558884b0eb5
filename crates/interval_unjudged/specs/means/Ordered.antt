-- Product and quotient of intervals by comparisons alone. Definitions only.
-- A comparison with a NaN is false, so that these take least and greatest of four as `interval` does where no NaN is among the four, and otherwise not:
-- `mul-ordered` and `div-ordered` say where they are the cover's.
use Rattle.std.specs.Prelude.{cond, Float}
use Rattle.std.specs.Float.Ieee.{lt}
use Rattle.interval.specs.float32.Operators.{◌⊕◌, ◌⊗◌, ◌⊘◌}
use Rattle.interval.specs.declared.Interval.{Interval}

-- The first unless the other is strictly below it, or above it.
unfoldable pub lesser : Float → Float → Float
lesser x y = cond (lt y x) y x

unfoldable pub greater : Float → Float → Float
greater x y = cond (lt x y) y x

-- In the order of `Interval-of_four`.
unfoldable pub Interval-of_four_ordered : Float → Float → Float → Float → Interval
Interval-of_four_ordered a b c d = record { low = lesser (lesser a b) (lesser c d); high = greater (greater a b) (greater c d) }

unfoldable pub Interval-mul_ordered : Interval → Interval → Interval
Interval-mul_ordered X Y = Interval-of_four_ordered (X.low ⊗ Y.low) (X.high ⊗ Y.low) (X.low ⊗ Y.high) (X.high ⊗ Y.high)

unfoldable pub Interval-div_ordered : Interval → Interval → Interval
Interval-div_ordered X Y = Interval-of_four_ordered (X.low ⊘ Y.low) (X.high ⊘ Y.low) (X.low ⊘ Y.high) (X.high ⊘ Y.high)

-- A number that is finite only where both ends are.
abbrev pub Interval-ends_sum : Interval → Float
Interval-ends_sum X = X.low ⊕ X.high
