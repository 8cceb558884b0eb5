-- n is nearer to q² than to (q + 1)² exactly where n ≤ q² + q.
use Prim.Native.Nat.{ℕ, ◌^◌, ◌≤◌, ◌<◌}
use mathlib.Core.Path.{◌≡◌}
use native.Mathlib.Nat.{le_of_lt, mul-le-mul}
use native.Mathlib.Omega.{arith}
use Rattle.square_root.specs.SquareRoot.{isqrt}
use Rattle.square_root.proofs.FloorSqrt.{nearest-down, nearest-up}
use Rattle.square_root.proofs.Heron.{isqrt-lt}
use Rattle.square_root.proofs.heron_root.Goals as goal

root-le : (n q : ℕ) → n < 2 ^ 48 → q ≡ isqrt n → q ≤ 2 ^ 24
root-le n q h e = rw e (le_of_lt (isqrt-lt n h))

pub overflow_mul-q : goal.overflow_mul-q
overflow_mul-q c =
    let m = root-le c.args.n c.isqrt-q.result c.requires.fact_2 c.isqrt-q.ensures in
    let l = mul-le-mul m m in
    omega arith

pub overflow_add-q : goal.overflow_add-q
overflow_add-q c =
    let m = root-le c.args.n c.isqrt-q.result c.requires.fact_2 c.isqrt-q.ensures in
    let l = mul-le-mul m m in
    omega arith

pub returns-then-n-q : goal.returns-then-n-q
returns-then-n-q c = nearest-down c.args.n c.isqrt-q.result c.isqrt-q.ensures c.requires.fact_1 (omega arith)

pub returns : goal.returns
returns c = nearest-up c.args.n c.isqrt-q.result _ c.isqrt-q.ensures (omega arith) (omega arith)
