-- Floats that are alike, `Alike`: equal as numbers, so equal or both zeros, where they are values of a format. Definitions only.
-- No NaN is alike to anything. `alike-sum` of motion_pad says that alike floats are the same with +0 added.
use Rattle.std.specs.Prelude.{Float}
use Rattle.float32.specs.rounding.Order.{◌≼◌}

pub record Alike (x y : Float) : Type 0 where
  pub to : x ≼ y
  pub from : y ≼ x
