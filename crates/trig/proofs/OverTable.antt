-- Over the entries of the sine table the rule is the sine and the cosine themselves: `sin-over-table`, `cos-over-table`, and in units likewise.
-- `sin-lent` and `cos-lent` say it of what code gives that was lent the table as a list.
use mathlib.Core.Path.{◌≡◌, ap, ◌∙◌}
use mathlib.Core.List.{List}
use mathlib.Core.Bool.{cond}
use Prim.Native.Nat.{ℕ, zero, suc, ◌+◌, ◌-◌, ◌/◌, ◌%◌, ◌≤◌}
use native.Mathlib.Omega.{arith}
use lib.IntN.{ℤ, pos, neg_ℤ}
use lib.Ieee.{Float}
use Rattle.sine_table.specs.Table.{quarter_turn, sine_table}
use Rattle.sine_table.specs.QuarterSine.{quarter_sine_over, quarter_sine, entry}
use Rattle.sine_table.proofs.QuarterSine.{quarter_sine_over-table}
use Rattle.float_bits.specs.Decode.{negative}
use Rattle.trig.specs.Units.{angle_units, sin_quarter, sin_units_over, cos_units_over, sin_units, cos_units, nearest_float, with_sign}
use Rattle.trig.specs.SinCos.{near, far_sin, far_cos, sin, cos, sin_over, cos_over}

-- Two functions that agree up to a quarter turn.
quarter-agrees : (G H : ℕ → ℕ) → ((v : ℕ) → v ≤ quarter_turn → G v ≡ H v) → (k v : ℕ) → v ≤ quarter_turn → sin_quarter G k v ≡ sin_quarter H k v
unfolding sin_quarter
quarter-agrees G H e zero v h = ap pos (e v h)
quarter-agrees G H e (suc zero) v h = ap pos (e (quarter_turn - v) (omega arith))
quarter-agrees G H e (suc (suc zero)) v h = ap (λ (n : ℕ). neg_ℤ (pos n)) (e v h)
quarter-agrees G H e (suc (suc (suc k))) v h = ap (λ (n : ℕ). neg_ℤ (pos n)) (e (quarter_turn - v) (omega arith))

pub sin_units-over-table : (u : ℕ) → sin_units_over (entry sine_table) u ≡ sin_units u
unfolding sin_units sin_units_over quarter_sine
sin_units-over-table u =
    quarter-agrees (quarter_sine_over (entry sine_table)) quarter_sine quarter_sine_over-table (u / quarter_turn % 4) (u % quarter_turn) (omega arith)

pub cos_units-over-table : (u : ℕ) → cos_units_over (entry sine_table) u ≡ cos_units u
unfolding cos_units_over cos_units
cos_units-over-table u = sin_units-over-table (u + quarter_turn)

pub sin-over-table : (a : Float) → sin_over (entry sine_table) a ≡ sin a
unfolding sin_over sin
sin-over-table a = ap (λ (z : ℤ). cond (near a) (nearest_float (with_sign (negative a) z)) far_sin) (sin_units-over-table (angle_units a))

pub cos-over-table : (a : Float) → cos_over (entry sine_table) a ≡ cos a
unfolding cos_over cos
cos-over-table a = ap (λ (z : ℤ). cond (near a) (nearest_float z) far_cos) (cos_units-over-table (angle_units a))

module _ {t : List ℕ} (e : t ≡ sine_table) (a : Float) {z : Float} where
  pub sin-lent : z ≡ sin_over (entry t) a → z ≡ sin a
  sin-lent f = f ∙ ap (λ (l : List ℕ). sin_over (entry l) a) e ∙ sin-over-table a

  pub cos-lent : z ≡ cos_over (entry t) a → z ≡ cos a
  cos-lent f = f ∙ ap (λ (l : List ℕ). cos_over (entry l) a) e ∙ cos-over-table a
