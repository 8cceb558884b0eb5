-- A part of the unit interval, `UnitPart`, of which dt's pieces are cut. Definitions only.
use Rattle.std.specs.Prelude.{T}
use Rattle.std.specs.Float.{binary32}
use Rattle.std.specs.Float.Ieee.{fits}
use Rattle.interval.specs.declared.Interval.{Interval}
use Rattle.interval.specs.Contains.{Subset}
use Rattle.unit_interval.specs.Unit.{unit_interval}

-- With binary32 ends.
pub record UnitPart (i : Interval) : Type 0 where
  pub subset : Subset i unit_interval
  pub low_fits : T (fits binary32 i.low)
  pub high_fits : T (fits binary32 i.high)
