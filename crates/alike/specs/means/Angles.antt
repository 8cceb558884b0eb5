-- Two angles in order from 0 to a quarter turn, as far slerp has them: `QuarterAngles`. Definitions only.
use Rattle.std.specs.Prelude.{Float}
use Rattle.own_rounding.specs.rounding.Order.{◌≼◌}
use Rattle.interval_unjudged.specs.trig.Range.{Angle, quarter_turn_float}

-- The float nearest to a quarter turn lies a little beyond it; its sine is 1 (`sin-new`).
pub record QuarterAngles (a b : Float) : Type 0 where
  pub low : Angle a
  pub high : Angle b
  pub rises : a ≼ b
  pub quarter : b ≼ quarter_turn_float
