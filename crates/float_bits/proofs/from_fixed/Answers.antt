-- `from_fixed` meets its contract: the bits that it makes are those of the nearest float (`fixed-pattern`).
use mathlib.Core.Path.{sym, ap, ◌∙◌}
use mathlib.Core.Bool.{false}
use Prim.Native.Nat.{ℕ, ◌-◌, ◌%◌, ◌^◌}
use native.Mathlib.Nat.{le_of_lt}
use native.Mathlib.Omega.{arith}
use mir.Facts.{Fits-below}
use lib.Count.{leading_le}
use lib.Ieee.{binary32, round}
use Rattle.float_bits.proofs.Fixed.{infinity_bits, zeros-lt, fixed-pattern, fixed_zero, pattern_number}
use Rattle.float_bits.proofs.from_fixed.Goals as goal

pub returns-then-n-eq0 : goal.returns-then-n-eq0
returns-then-n-eq0 c =
    record { value = fixed_zero (c.args.d % 64) ∙ ap (λ (n : ℕ). round binary32 false n (2 ^ (c.args.d % 64))) (sym c.if-n-eq0.true) }

pub overflow_sub-exponent : goal.overflow_sub-exponent
overflow_sub-exponent c = omega (arith, leading_le 64 c.args.n)

pub overflow_sub-exponent-2 : goal.overflow_sub-exponent-2
overflow_sub-exponent-2 c = omega (arith, leading_le 64 c.args.n)

pub overflow_cast-zeros : goal.overflow_cast-zeros
overflow_cast-zeros c = Fits-below {n = 64} tt (leading_le 64 c.args.n)

pub overflow_shl-n : goal.overflow_shl-n
overflow_shl-n c = zeros-lt c.args.n (omega arith) (omega arith)

-- the significand that is left, and the bits that it makes
pub overflow_cast-result : goal.overflow_cast-result
overflow_cast-result c =
    let m =
    fixed-pattern c.args.n (c.args.d % 64) c.leading_24_digits.result (omega arith) (omega arith) (omega arith) c.leading_24_digits.ensures.value in
    Fits-below {n = 2 ^ 24} tt m.0

pub overflow_add-result : goal.overflow_add-result
overflow_add-result c =
    let m =
    fixed-pattern c.args.n (c.args.d % 64) c.leading_24_digits.result (omega arith) (omega arith) (omega arith) c.leading_24_digits.ensures.value in
    Fits-below {n = infinity_bits} tt (le_of_lt m.1.below)

pub float_from_bits-result : goal.float_from_bits-result
float_from_bits-result c =
    let m =
    fixed-pattern c.args.n (c.args.d % 64) c.leading_24_digits.result (omega arith) (omega arith) (omega arith) c.leading_24_digits.ensures.value in
    pattern_number _ m.1.below

pub returns : goal.returns
returns c =
    let m =
    fixed-pattern c.args.n (c.args.d % 64) c.leading_24_digits.result (omega arith) (omega arith) (omega arith) c.leading_24_digits.ensures.value in
    record { value = m.1.is }
