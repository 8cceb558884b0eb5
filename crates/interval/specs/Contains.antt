-- The words for closed intervals of floats: which numbers one contains, and when one lies in another. Definitions only.
-- An interval is its two ends as they are; one whose low end is above its high end contains nothing. The two zeros are equal, as in IEEE 754's comparison.
use Rattle.std.specs.Prelude.{T, Float}
use Rattle.std.specs.Float.Ieee.Scale.{finite}
use Rattle.float32.specs.rounding.Order.{◌≼◌}
use Rattle.interval.specs.declared.Interval.{Interval}

-- document 01, Cover: "Inside means low ≤ value ≤ high"
pub record Contains (X : Interval) (x : Float) : Type 0 where
  pub low : X.low ≼ x
  pub high : x ≼ X.high

-- X is not empty and lies in Y.
pub record Subset (X Y : Interval) : Type 0 where
  pub low : Y.low ≼ X.low
  pub proper : X.low ≼ X.high
  pub high : X.high ≼ Y.high

-- Both ends are finite.
pub record Finite (X : Interval) : Type 0 where
  pub low : T (finite X.low)
  pub high : T (finite X.high)

-- X is finite and contains x.
pub record Encloses (X : Interval) (x : Float) : Type 0 where
  pub finite : Finite X
  pub contains : Contains X x

-- X is not empty and lies in X', which is finite.
pub record Refines (X X' : Interval) : Type 0 where
  pub finite : Finite X'
  pub subset : Subset X X'
