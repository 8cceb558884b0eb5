-- Both products are below 2 ^ 32 * Q, so that nothing wraps; together they are too, so that the quotient has 32 digits.
use Prim.Native.Nat.{ℕ, ◌-◌, ◌*◌, ◌^◌, ◌≤◌, ◌<◌}
use native.Mathlib.Nat.{mul-le-mul, mul-le-mul_right}
use native.Mathlib.Omega.{arith}
use borrow.Author.Rules.{rules}
use Rattle.sine_table.specs.Table.{quarter_turn}
use Rattle.sine_table.proofs.interpolate.Goals as goal

product : (x r : ℕ) → x < 2 ^ 32 → r ≤ quarter_turn → x * r ≤ 2 ^ 32 * quarter_turn
product x r h k = mul-le-mul {n₂ = 2 ^ 32} {m₂ = quarter_turn} (omega arith) (omega arith)

pub overflow_mul-result : goal.overflow_mul-result
overflow_mul-result c = let l = product c.args.a (quarter_turn - c.args.r) (search rules) (omega arith) in record { fits = omega (arith, l) }

pub overflow_mul-result-2 : goal.overflow_mul-result-2
overflow_mul-result-2 c = let l = product c.args.b c.args.r (search rules) (omega arith) in record { fits = omega (arith, l) }

pub overflow_add-result : goal.overflow_add-result
overflow_add-result c =
    let l = product c.args.a (quarter_turn - c.args.r) (search rules) (omega arith) in
    let m = product c.args.b c.args.r (search rules) (omega arith) in
    omega (arith, l, m)

pub overflow_cast-result-3 : goal.overflow_cast-result-3
overflow_cast-result-3 c =
    let a = c.args.a in let b = c.args.b in let r = c.args.r in
    let l : a * (quarter_turn - r) ≤ (2 ^ 32 - 1) * (quarter_turn - r) = mul-le-mul_right (quarter_turn - r) (omega arith) in
    let m : b * r ≤ (2 ^ 32 - 1) * r = mul-le-mul_right r (omega arith) in
    record { fits = omega (arith, l, m) }
