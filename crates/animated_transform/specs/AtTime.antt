-- When a query takes a stored transform: at and outside the end times, and where the poses are equal, as 000's `interpolate` and `transform_point` test it.
-- Definitions only. A NaN time is neither, unless the poses are equal; the queries refuse it first.
use Rattle.std.specs.Prelude.{Bool, not, ◌||◌, Float}
use Rattle.std.specs.Float.Ieee.{le}
use Rattle.animated_transform.specs.declared.AnimatedTransform.{AnimatedTransform}

-- !self.actually_animated || time <= self.start_time
abbrev pub at_start : AnimatedTransform → Float → Bool
at_start m time = not m.actually_animated || le time m.start_time

-- time >= self.end_time
abbrev pub at_end : AnimatedTransform → Float → Bool
at_end m time = le m.end_time time
