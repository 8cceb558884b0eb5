-- Intervals that are alike end by end, `Interval-Alike`; what an operation of the cover gives, `Interval-Proper`; and the interval from the lesser to
-- the greater of two numbers. Definitions only.
use Rattle.std.specs.Prelude.{T, Float}
use Rattle.std.specs.Float.{binary32}
use Rattle.std.specs.Float.Ieee.{fits}
use Rattle.own_rounding.specs.rounding.Order.{◌≼◌}
use Rattle.own_rounding.specs.means.Alike.{Alike}
use Rattle.interval_unjudged.specs.interval.declared.Interval.{Interval}
use Rattle.interval_unjudged.specs.interval.Contains.{Finite}
use Rattle.interval_unjudged.specs.means.Ordered.{lesser, greater}

pub record Interval-Alike (X Y : Interval) : Type 0 where
  pub low : Alike X.low Y.low
  pub high : Alike X.high Y.high

-- Both ends are values of binary32.
pub record Interval-Values (X : Interval) : Type 0 where
  pub low : T (fits binary32 X.low)
  pub high : T (fits binary32 X.high)

-- What an operation of the cover gives where it is not refused: finite ends that are values of binary32, in order.
pub record Interval-Proper (X : Interval) : Type 0 where
  pub finite : Finite X
  pub values : Interval-Values X
  pub rises : X.low ≼ X.high

-- From the lesser to the greater of two, by one comparison each.
abbrev pub Interval-new_ordered : Float → Float → Interval
Interval-new_ordered a b = record { low = lesser a b; high = greater a b }
