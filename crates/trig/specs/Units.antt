-- Document 01's angles in whole units: an angle u in units of 2 ^ -28, Q = `quarter_turn` of them to a quarter turn, and a sine or a cosine in units of 2 ^ -30.
-- `angle_units` is u of a float, `sin_units` and `cos_units` the rule for every u, `nearest_float` what such a number of units is as a float.
-- `sin_units_over` and `cos_units_over` are the rule over any entries in place of the table's: what code gives that is lent a table.
use Rattle.std.specs.Prelude.{ℕ, zero, suc, ◌+◌, ◌-◌, ◌*◌, ◌/◌, ◌%◌, ◌^◌, Bool, true, false, ℤ, pos, negsuc, neg_ℤ, Float}
use Rattle.std.specs.Float.{nan, inf, fin, binary32}
use Rattle.std.specs.Float.Ieee.{up, down, round}
use Rattle.sine_table.specs.Table.{quarter_turn, sine_entry}
use Rattle.sine_table.specs.QuarterSine.{quarter_sine_over}

-- |x| * 2 ^ d rounded down, for a finite x.
unfoldable pub fixed : ℕ → Float → ℕ
fixed d nan = 0
fixed d (inf s) = 0
fixed d (fin s m e) = m * up e * 2 ^ d / down e

-- u: |a| * 2 ^ 28 rounded down.
abbrev pub angle_units : Float → ℕ
angle_units a = fixed 28 a

-- H(v), H(Q - v), -H(v), -H(Q - v) for k = 0, 1, 2, 3.
unfoldable pub sin_quarter : (ℕ → ℕ) → ℕ → ℕ → ℤ
sin_quarter H zero v = pos (H v)
sin_quarter H (suc zero) v = pos (H (quarter_turn - v))
sin_quarter H (suc (suc zero)) v = neg_ℤ (pos (H v))
sin_quarter H (suc (suc (suc k))) v = neg_ℤ (pos (H (quarter_turn - v)))

-- The sine of u over the entries T: k is u div Q, taken modulo 4; v is u mod Q.
unfoldable pub sin_units_over : (ℕ → ℕ) → ℕ → ℤ
sin_units_over T u = sin_quarter (quarter_sine_over T) (u / quarter_turn % 4) (u % quarter_turn)

-- The cosine of u is the sine's rule for u + Q.
unfoldable pub cos_units_over : (ℕ → ℕ) → ℕ → ℤ
cos_units_over T u = sin_units_over T (u + quarter_turn)

-- Both over the table's own entries.
unfoldable pub sin_units : ℕ → ℤ
sin_units u = sin_units_over sine_entry u

unfoldable pub cos_units : ℕ → ℤ
cos_units u = sin_units (u + quarter_turn)

-- The float nearest to z units of 2 ^ -30; a zero is +0.
unfoldable pub nearest_float : ℤ → Float
nearest_float (pos n) = round binary32 false n (2 ^ 30)
nearest_float (negsuc n) = round binary32 true (suc n) (2 ^ 30)

-- Negated where the sign says so.
abbrev pub with_sign : Bool → ℤ → ℤ
with_sign true z = neg_ℤ z
with_sign false z = z
