-- Document 01's arc cosine of a float, for every float: the least angle in 0 to 2 Q whose cosine in units is at most c * 2 ^ 30 rounded down.
use Rattle.std.specs.Prelude.{ℕ, zero, suc, ◌*◌, ◌^◌, Bool, false, cond, ◌&&◌, ℤ, pos, Float}
use Rattle.std.specs.Int.Signed.{le_z, shr_z}
use Rattle.std.specs.Float.{nan, inf, fin, binary32}
use Rattle.std.specs.Float.Ieee.{up, down, le, neg, round}
use Rattle.sine_table.specs.Table.{quarter_turn}
use Rattle.trig.specs.float32.Operators.{one}
use Rattle.trig.specs.Units.{cos_units, with_sign}

-- The least k from j on that passes the test p; where none of the next d does, j + d.
unfoldable pub least_from : (ℕ → Bool) → ℕ → ℕ → ℕ
least_from p zero j = j
least_from p (suc d) j = let later = least_from p d (suc j) in cond (p j) j later

-- The least u in 0 to 2 Q whose cosine in units is at most w.
unfoldable pub least_angle : ℤ → ℕ
least_angle w = least_from (λ (u : ℕ). le_z (cos_units u) w) (2 * quarter_turn) 0

-- c * 2 ^ 30 rounded down, for a finite c.
unfoldable pub floor_units : Float → ℤ
floor_units nan = pos 0
floor_units (inf s) = pos 0
floor_units (fin s m e) = shr_z (with_sign s (pos (m * up e * 2 ^ 30))) (down e)

-- c lies in -1 to 1; a NaN does not.
abbrev pub in_domain : Float → Bool
in_domain c = le (neg one) c && le c one

-- The float nearest to u / 2 ^ 28; of a c outside -1 to 1, and of NaN, it is NaN.
unfoldable pub acos : Float → Float
acos c = cond (in_domain c) (round binary32 false (least_angle (floor_units c)) (2 ^ 28)) nan
