-- The least and the greatest of two floats. Definitions only.
-- Of two equal values, a zero of either sign among them, the first; of a NaN and another value, the other; of two NaNs NaN.
use Rattle.std.specs.Prelude.{cond, Float}
use Rattle.std.specs.Float.Ieee.{is_nan, lt}

-- document 01, Numbers: "least and greatest of two (the first unless the other is strictly beyond it; a NaN gives the other)"
-- A second that is NaN is beyond nothing, so that only the first is asked for.
unfoldable pub min_num : Float → Float → Float
min_num x y = cond (is_nan x) y (cond (lt y x) y x)

unfoldable pub max_num : Float → Float → Float
max_num x y = cond (is_nan x) y (cond (lt x y) y x)
