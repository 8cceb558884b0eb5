-- `isqrt n` is the whole part of √n (`isqrt-is`), and no other number is (`isqrt-unique`). The nearest whole number follows from it (`nearest-down`,
-- `nearest-up`), or from a test of any number (`nearest-checked`).
use mathlib.Core.Path.{◌≡◌}
use Prim.Native.Nat.{ℕ, zero, suc, ◌+◌, ◌*◌, ◌/◌, ◌≤◌, ◌<◌, ◌^◌}
use native.Mathlib.Nat.{lt_of_lt_of_le, lt_of_le_of_lt, lt_of_not-le, not-le_of_lt, le_antisymm}
use native.Mathlib.Nat.{mul-le-mul, div-lt_iff_lt-mul, pow-suc, pow-le-pow_left, zero-lt-suc}
use native.Mathlib.Omega.{arith}
use mathlib.Core.Bool.{Bool, true, false, not, ◌&&◌, cond, and-eq-true_iff}
use lib.Dec.{T, leb, ltb, leb→le, nleb→lt}
use borrow.Author.Tests.{ltb-true, leb-true}
use lib.Ieee.{size}
use lib.Ieee.Digits.{size-lt}
use Rattle.square_root.specs.SquareRoot.{isqrt_below, isqrt}
use Rattle.square_root.specs.Nearest.{FloorSqrt}
use Rattle.square_root.specs.means.Steps.{NearestWhole}

pub square-lt : (x y : ℕ) → x * x < y * y → x < y
square-lt x y h = lt_of_not-le (λ (k : y ≤ x). not-le_of_lt h (mul-le-mul k k))

-- A square and its root, added, have at most twice the root's digits.
pub square-fits : (q : ℕ) → q < 2 ^ 32 → q * q + q < 2 ^ 64
square-fits q h = let m : suc q * suc q ≤ 2 ^ 32 * 2 ^ 32 = mul-le-mul h h in omega arith

-- One digit more: r is the whole part of √(n / 4).
digit-one : (n r : ℕ) → FloorSqrt (n / 4) r → (2 * r + 1) * (2 * r + 1) ≤ n → FloorSqrt n (2 * r + 1)
digit-one n r i h = record { least = h; above = omega (arith, i.above) }

digit-zero : (n r : ℕ) → FloorSqrt (n / 4) r → n < (2 * r + 1) * (2 * r + 1) → FloorSqrt n (2 * r)
digit-zero n r i h = record { least = omega (arith, i.least); above = h }

isqrt_below-is : (k n : ℕ) → n < 4 ^ k → FloorSqrt n (isqrt_below k n)
unfolding isqrt_below
isqrt_below-is zero n h = record { least = omega arith; above = omega arith }
isqrt_below-is (suc k) n h =
    let r = isqrt_below k (n / 4) in
    let t = (2 * r + 1) * (2 * r + 1) in
    go r (isqrt_below-is k (n / 4) ((div-lt_iff_lt-mul (zero-lt-suc 3)).1 (rw (pow-suc 4 k) at h))) (leb t n) (leb→le t n) (nleb→lt t n)
  where
    go : (r : ℕ) → FloorSqrt (n / 4) r
        → (b : Bool) → (T b → (2 * r + 1) * (2 * r + 1) ≤ n) → (T (not b) → n < (2 * r + 1) * (2 * r + 1))
        → FloorSqrt n (cond b (2 * r + 1) (2 * r))
    go r i true p q = digit-one n r i (p tt)
    go r i false p q = digit-zero n r i (q tt)

pub isqrt-is : (n : ℕ) → FloorSqrt n (isqrt n)
unfolding isqrt
isqrt-is n = isqrt_below-is (size n) n (lt_of_lt_of_le (size-lt n) (pow-le-pow_left (omega arith) (size n)))

-- h ≤ √n is h ≤ r.
pub floor-ge : {n r : ℕ} → FloorSqrt n r → (h : ℕ) → h * h ≤ n → h ≤ r
floor-ge {n} {r} i h k = let l = square-lt h (r + 1) (lt_of_le_of_lt k i.above) in omega arith

floor-unique : {n r q : ℕ} → FloorSqrt n r → FloorSqrt n q → r ≡ q
floor-unique {n} {r} {q} i j = le_antisymm (floor-ge j r i.least) (floor-ge i q j.least)

pub isqrt-unique : {n r : ℕ} → FloorSqrt n r → r ≡ isqrt n
isqrt-unique {n} i = floor-unique i (isqrt-is n)

-- ---- to the nearest whole number, from the whole part
pub nearest-down : (n q : ℕ) → q ≡ isqrt n → 0 < n → n ≤ q * q + q → NearestWhole n q
nearest-down n q e N h = record { above = go q (rw e (isqrt-is n).least); below = h }
  where
    go : (q : ℕ) → q * q ≤ n → q * q < n + q
    go zero l = omega arith
    go (suc q) l = omega arith

pub nearest-up : (n q r : ℕ) → q ≡ isqrt n → q * q + q < n → r ≡ q + 1 → NearestWhole n r
nearest-up n q r e h E = let l : n < (q + 1) * (q + 1) = rw e (isqrt-is n).above in record { above = rw E (omega arith); below = rw E (omega arith) }

-- ---- to the nearest whole number, by a test of any number
pub nearest-checked : (n r : ℕ) → (ltb (r * r) (n + r) && leb n (r * r + r)) ≡ true → NearestWhole n r
nearest-checked n r h = let t = (and-eq-true_iff (ltb (r * r) (n + r)) (leb n (r * r + r))).0 h in
    record { above = ltb-true (r * r) (n + r) t.0; below = leb-true n (r * r + r) t.1 }
