-- The share of a move's dt that a window of times has, and how it is cut into pieces. Definitions only.
-- Quotations are of document 02, "Two booms over one bay". A window is all times from its earlier tick to its later one, both included.
use Rattle.std.specs.Prelude.{ℕ, zero, suc, List, [], ◌∷◌, ◌++◌, Float}
use Rattle.float32.specs.Operators.{positive_zero, one}
use Rattle.float32.specs.Clamp.{clamp}
use Rattle.interval.specs.declared.Interval.{Interval}
use Rattle.interval.specs.Interval.{Interval-midpoint}
use Rattle.unit_interval.specs.Unit.{dt}

-- "limited to 0 and 1"
unfoldable pub limited : Float → Float
limited x = clamp x positive_zero one

-- "its share of dt, its ends by `interpolate`'s own formula": of the move from start to end in the window from earlier to later
unfoldable pub share : Float → Float → Float → Float → Interval
share start end earlier later = record { low = limited (dt start end earlier); high = limited (dt start end later) }

abbrev pub lower_half : Interval → Interval
lower_half i = record { low = i.low; high = Interval-midpoint i }

abbrev pub upper_half : Interval → Interval
upper_half i = record { low = Interval-midpoint i; high = i.high }

-- "cut by rounded midpoints d times": 2 ^ d pieces, rising
unfoldable pub pieces : ℕ → Interval → List Interval
pieces zero i = i ∷ []
pieces (suc d) i = pieces d (lower_half i) ++ pieces d (upper_half i)
