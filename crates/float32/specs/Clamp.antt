-- A float held between two ends. Definitions only.
-- Nothing is asked of the ends. A NaN v is below and above nothing, so that it stays.
use Rattle.std.specs.Prelude.{cond, Float}
use Rattle.std.specs.Float.Ieee.{lt}

-- document 01, Numbers: "clamp(v, a, b) = a where v < a, b where v > b, else v"
unfoldable pub clamp : Float → Float → Float → Float
clamp v a b = cond (lt v a) a (cond (lt b v) b v)
