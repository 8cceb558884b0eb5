-- Document 01's rule for the sine and the cosine of an interval, on its two ends: `sin_low`, `sin_high`, `cos_low`, `cos_high`. `Angle` is the domain of its laws:
-- from 0 to a full turn. Half and quarter turns, as floats, bound the arc cosine.
use Rattle.std.specs.Prelude.{Bool, cond, ◌&&◌, ◌||◌, ℕ, ◌*◌, min, max, leb, Float}
use Rattle.std.specs.Float.{binary32}
use Rattle.std.specs.Float.Ieee.{neg, of_bits}
use Rattle.float32.specs.rounding.Order.{◌≼◌}
use Rattle.float32.specs.MinMax.{min_num, max_num}
use Rattle.float32.specs.Operators.{one}
use Rattle.sine_table.specs.Table.{quarter_turn}
use Rattle.trig.specs.Units.{angle_units}
use Rattle.trig.specs.SinCos.{sin, cos}

-- The floats nearest to one, two and four quarter turns, which are those nearest to pi / 2, pi and 2 pi.
abbrev pub quarter_turn_float : Float
quarter_turn_float = of_bits binary32 0x3fc90fdb

abbrev pub half_turn_float : Float
half_turn_float = of_bits binary32 0x40490fdb

abbrev pub full_turn_float : Float
full_turn_float = of_bits binary32 0x40c90fdb

-- x lies from 0 to a full turn.
pub record Angle (x : Float) : Type 0 where
  pub from_zero : of_bits binary32 0 ≼ x
  pub to-full-turn : x ≼ full_turn_float

-- w lies from one end's u to the other's.
abbrev pub lies : ℕ → ℕ → ℕ → Bool
lies w u v = leb (min u v) w && leb w (max u v)

-- The least of two values, and -1 where the test says so.
abbrev pub range_low : Bool → Float → Float → Float
range_low t p q = cond t (neg one) (min_num p q)

-- The greatest of two values, and 1 where the test says so.
abbrev pub range_high : Bool → Float → Float → Float
range_high t p q = cond t one (max_num p q)

-- The sine: -1 if 3 Q lies from one end's u to the other's, 1 if Q does.
unfoldable pub sin_low : Float → Float → Float
sin_low a b = range_low (lies (3 * quarter_turn) (angle_units a) (angle_units b)) (sin a) (sin b)

unfoldable pub sin_high : Float → Float → Float
sin_high a b = range_high (lies quarter_turn (angle_units a) (angle_units b)) (sin a) (sin b)

-- The cosine: -1 at 2 Q, 1 at 0 and 4 Q.
unfoldable pub cos_low : Float → Float → Float
cos_low a b = range_low (lies (2 * quarter_turn) (angle_units a) (angle_units b)) (cos a) (cos b)

unfoldable pub cos_high : Float → Float → Float
cos_high a b = range_high (lies 0 (angle_units a) (angle_units b) || lies (4 * quarter_turn) (angle_units a) (angle_units b)) (cos a) (cos b)
