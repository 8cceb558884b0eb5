-- A float taken apart into whole numbers: its sign, and its magnitude as a significand times a power of two. Definitions only.
-- The unit is 2^-149, the least float above zero, so that every finite float is a whole number of units. A NaN counts as not negative,
-- and a NaN or an infinity has no magnitude: its significand and exponent are 0.
use Rattle.std.specs.Prelude.{ℕ, ◌-◌, ◌*◌, ◌/◌, ◌^◌, Bool, false, Float}
use Rattle.std.specs.Float.{nan, inf, fin}
use Rattle.std.specs.Float.Ieee.{up, down, size}
use Rattle.float_bits.specs.declared.Decoded.{Decoded}

-- the sign bit of a value that is no NaN
unfoldable pub negative : Float → Bool
negative nan = false
negative (inf s) = s
negative (fin s m e) = s

-- |x| in units of 2^-149
unfoldable pub magnitude : Float → ℕ
magnitude nan = 0
magnitude (inf s) = 0
magnitude (fin s m e) = m * up e * 2 ^ 149 / down e

-- how many of the magnitude's binary digits stand below the 24 leading ones
unfoldable pub exponent : Float → ℕ
exponent x = size (magnitude x) - 24

-- |x| = significand × 2^exponent units: num_traits' `integer_decode`, with the exponent counted in units and the sign apart
unfoldable pub integer_decode : Float → Decoded
integer_decode x = record { negative = negative x; significand = magnitude x / 2 ^ exponent x; exponent = exponent x }
