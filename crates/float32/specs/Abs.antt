-- The absolute value of a float. Definitions only.
-- It clears the sign: that of -0 is +0, of an infinity +infinity, of a NaN NaN.
use Rattle.std.specs.Prelude.{false, Float}
use Rattle.std.specs.Float.{nan, inf, fin}

-- document 01, Numbers: "Absolute value"
unfoldable pub abs : Float → Float
abs nan = nan
abs (inf s) = inf false
abs (fin s m e) = fin false m e
