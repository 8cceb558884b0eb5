-- Document 01's sine and cosine of a float, for every float: `sin` and `cos`; `sin_over` and `cos_over` over any entries in place of the table's.
-- What is said of far angles, those "of size 2^24 or more, or not finite" (document 02), stands here alone.
use Rattle.std.specs.Prelude.{ℕ, Bool, cond, ℤ, Float}
use Rattle.std.specs.Float.{nan, binary32}
use Rattle.std.specs.Float.Ieee.{lt, of_bits}
use Rattle.float32.specs.Abs.{abs}
use Rattle.float_bits.specs.Decode.{negative}
use Rattle.trig.specs.Units.{angle_units, sin_units_over, cos_units_over, sin_units, cos_units, nearest_float, with_sign}

-- |a| is below 2 ^ 24; of a NaN and of an infinity it is not.
abbrev pub near : Float → Bool
near a = lt (abs a) (of_bits binary32 0x4b800000)

-- document 02, Far angles: "sine and cosine now both give NaN instead of 0 and 1"
abbrev pub far_sin : Float
far_sin = nan

abbrev pub far_cos : Float
far_cos = nan

-- The sine in units of |a|, by the rule S, negated for a negative a, as the nearest float.
abbrev pub sin_by : (ℕ → ℤ) → Float → Float
sin_by S a = cond (near a) (nearest_float (with_sign (negative a) (S (angle_units a)))) far_sin

-- The cosine in units of |a|, by the rule C, whichever sign a has, as the nearest float.
abbrev pub cos_by : (ℕ → ℤ) → Float → Float
cos_by C a = cond (near a) (nearest_float (C (angle_units a))) far_cos

unfoldable pub sin : Float → Float
sin a = sin_by sin_units a

unfoldable pub cos : Float → Float
cos a = cos_by cos_units a

-- Both over the entries T. Over those of `sine_table` they are `sin` and `cos` (`sin-over-table`, `cos-over-table`).
unfoldable pub sin_over : (ℕ → ℕ) → Float → Float
sin_over T a = sin_by (sin_units_over T) a

unfoldable pub cos_over : (ℕ → ℕ) → Float → Float
cos_over T a = cos_by (cos_units_over T) a
