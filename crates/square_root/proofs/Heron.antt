-- Heron's rule, the mean of x and n / x: it is never below √n (`heron-ge`), and an x that it does not make smaller is at most √n (`heron-le`).
use mathlib.Core.Path.{◌≡◌, refl}
use mathlib.Core.Logic.{inl, inr}
use Prim.Native.Nat.{ℕ, ◌+◌, ◌-◌, ◌*◌, ◌/◌, ◌≤◌, ◌<◌, ◌^◌}
use native.Mathlib.Nat.{le_trans, le_antisymm, lt_of_le_of_lt, lt_of_lt_of_le, eq-zero-or-pos, le-div_iff_mul-le}
use native.Mathlib.Omega.{arith}
use Rattle.square_root.specs.SquareRoot.{isqrt}
use Rattle.square_root.specs.Nearest.{FloorSqrt}
use Rattle.square_root.proofs.FloorSqrt.{square-lt, isqrt-is, floor-ge}

-- The product of two numbers is at most the square of their mean.
product_le : (a x r : ℕ) → a + x ≡ 2 * r → a * x ≤ r * r
product_le a x r e = elim (eq-zero-or-pos (a - r)) [ inl z ↦ below (r - a) (omega arith) (omega arith) | inr l ↦ above (a - r) (omega arith) (omega arith) ]
  where
    below : (t : ℕ) → r ≡ a + t → x ≡ a + t + t → a * x ≤ r * r
    below t h k = rw (h, k) (omega arith)

    above : (t : ℕ) → r ≡ x + t → a ≡ x + t + t → a * x ≤ r * r
    above t h k = rw (h, k) (omega arith)

pub heron-ge : (n x : ℕ) → 0 < x → isqrt n ≤ (x + n / x) / 2
heron-ge n x X = go (isqrt n) (isqrt-is n)
  where
    go : (r : ℕ) → FloorSqrt n r → r ≤ (x + n / x) / 2
    go r i = elim (eq-zero-or-pos (2 * r - x)) [
      | inl z ↦ omega arith
      | inr l ↦ let k : 2 * r - x ≤ n / x = (le-div_iff_mul-le X).1 (le_trans (product_le (2 * r - x) x r (omega arith)) i.least) in omega arith
    ]

pub heron-le : (n x : ℕ) → 0 < x → x ≤ (x + n / x) / 2 → x ≤ isqrt n
heron-le n x X h = let k : x ≤ n / x = omega arith in floor-ge (isqrt-is n) x ((le-div_iff_mul-le X).0 k)

isqrt-pos : (n : ℕ) → 0 < n → 0 < isqrt n
isqrt-pos n h = floor-ge (isqrt-is n) 1 (omega arith)

pub isqrt-lt : (n : ℕ) → n < 2 ^ 48 → isqrt n < 2 ^ 24
isqrt-lt n h = square-lt (isqrt n) (2 ^ 24) (lt_of_le_of_lt (isqrt-is n).least h)

-- ---- the iteration from 2 ^ 24 down: x, and y, the mean of x and n / x
pub record Iterate (n x y : ℕ) : Type 0 where
  pub above : isqrt n ≤ x
  pub small : x ≤ 2 ^ 24
  pub mean : y ≡ (x + n / x) / 2

module _ (n : ℕ) (N : 0 < n) where
  mean-ge : {x y : ℕ} → Iterate n x y → isqrt n ≤ y
  mean-ge {x} i = let X : 0 < x = lt_of_lt_of_le (isqrt-pos n N) i.above in rw i.mean (heron-ge n x X)

  pub mean-pos : {x y : ℕ} → Iterate n x y → 0 < y
  mean-pos i = lt_of_lt_of_le (isqrt-pos n N) (mean-ge i)

  pub iterate-next : {x y : ℕ} → Iterate n x y → y < x → Iterate n y ((y + n / y) / 2)
  iterate-next i h = record { above = mean-ge i; small = omega (arith, i.small); mean = refl }

  pub iterate-last : {x y : ℕ} → Iterate n x y → x ≤ y → x ≡ isqrt n
  iterate-last {x} i h = le_antisymm (heron-le n x (lt_of_lt_of_le (isqrt-pos n N) i.above) (rw i.mean at h)) i.above
