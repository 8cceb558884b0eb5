-- An estimate that is below √n is below 2 ^ 24, and one that is above it is not 0.
use Prim.Native.Nat.{ℕ, zero, suc, ◌+◌, ◌*◌, ◌^◌, ◌≤◌, ◌<◌}
use native.Mathlib.Nat.{lt_of_not-le, mul-le-mul}
use native.Mathlib.Omega.{arith}
use Rattle.square_root.proofs.FloorSqrt.{square-fits}
use Rattle.square_root.proofs.corrected.Goals as goal

below_root : (n q : ℕ) → n < 2 ^ 48 → q * q + q < n → q < 2 ^ 24
below_root n q h k = lt_of_not-le (λ (l : 2 ^ 24 ≤ q). let m : 2 ^ 24 * 2 ^ 24 ≤ q * q = mul-le-mul l l in omega arith)

above_root : (n q : ℕ) → 0 < n → n + q ≤ q * q → 1 ≤ q
above_root n zero N h = omega arith
above_root n (suc q) N h = omega arith

pub overflow_mul-square : goal.overflow_mul-square
overflow_mul-square c = omega (arith, square-fits c.args.estimate c.requires.fact_3)

pub overflow_add-square : goal.overflow_add-square
overflow_add-square c = omega (arith, square-fits c.args.estimate c.requires.fact_3)

pub returns-then-n-square : goal.returns-then-n-square
returns-then-n-square c = omega (arith, below_root c.args.n c.args.estimate c.requires.fact_2 (omega arith))

pub overflow_sub-result : goal.overflow_sub-result
overflow_sub-result c = above_root c.args.n c.args.estimate c.requires.fact_1 c.if-n-estimate.true
