-- A shift to the right takes a significand times a power of two, in units of 2 ^ -149, to a whole number of coarser units, rounded down: `shift-right`, and
-- `shift_none` where nothing is left of it.
use mathlib.Core.Path.{◌≡◌, sym, ap, ◌∙◌}
use Prim.Native.Nat.{ℕ, ◌+◌, ◌-◌, ◌*◌, ◌/◌, ◌^◌, ◌≤◌, ◌<◌}
use native.Mathlib.Nat.{le_trans, le_of_eq, lt_of_lt_of_le, mul-lt-mul_of_pos_right, mul_assoc, div-eq_of_lt}
use native.Mathlib.Omega.{arith}
use lib.Pow.{pow-add, pow_pos, pow_mono}
use lib.Ieee.Nearest.{div_same}

pub shift_none : (m j : ℕ) → m < 2 ^ 54 → j < 95 → 0 ≡ m * 2 ^ j / 2 ^ 149
shift_none m j h k =
    sym (div-eq_of_lt
    (lt_of_lt_of_le (mul-lt-mul_of_pos_right h (pow_pos j)) (le_trans (le_of_eq (sym (pow-add 2 54 j))) (pow_mono {i = 54 + j} {j = 149} (omega arith)))))

pub shift-right : (m j : ℕ) → j ≤ 149 → m / 2 ^ (149 - j) ≡ m * 2 ^ j / 2 ^ 149
shift-right m j h =
    div_same m (2 ^ (149 - j)) (m * 2 ^ j) (2 ^ 149) (pow_pos (149 - j)) (pow_pos 149)
    (ap (λ (x : ℕ). m * x) (ap (λ (x : ℕ). 2 ^ x) (let z : 149 ≡ j + (149 - j) = omega arith in z) ∙ pow-add 2 j (149 - j))
    ∙ sym (mul_assoc m (2 ^ j) (2 ^ (149 - j))))
