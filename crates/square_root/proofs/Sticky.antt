-- No whole number tells half of `sticky_sqrt n c` from √(n / c): `sticky-side`. From that alone it is monotone in n / c (`sticky-mono`).
use mathlib.Core.Path.{◌≡◌, sym}
use mathlib.Core.Logic.{inl, inr}
use Prim.Native.Nat.{ℕ, ◌+◌, ◌*◌, ◌/◌, ◌%◌, ◌≤◌, ◌<◌}
use native.Mathlib.Nat.{add-zero, eq-zero-or-pos, le_trans, le_of_eq, le_of_lt, lt_of_lt_of_le, lt_of_not-le, not-le_of_lt, lt_of_mul-lt-mul_right}
use native.Mathlib.Nat.{eq-or-lt_of_le, mul-le-mul, mul-le-mul_right, mul-lt-mul_of_pos_right, le_of_mul-le-mul_right, le-div_iff_mul-le, div-lt_iff_lt-mul}
use native.Mathlib.Omega.{arith}
use mathlib.Core.Bool.{Bool, true, false, cond}
use lib.Dec.{T, eqb, eqb→eq}
use lib.Ieee.Fits.{eq→eqb}
use Rattle.square_root.specs.SquareRoot.{isqrt, sticky_sqrt}
use Rattle.square_root.specs.Nearest.{FloorSqrt, SameSide}
use Rattle.square_root.proofs.FloorSqrt.{square-lt, isqrt-is, floor-ge}

square_le : (x y : ℕ) → x * x ≤ y * y → x ≤ y
square_le x y h = let l : x < y + 1 = lt_of_not-le (λ (k : y + 1 ≤ x). let m : (y + 1) * (y + 1) ≤ x * x = mul-le-mul k k in omega arith) in omega arith

-- √(n / c) is r exactly, or it lies above r and below r + 1.
module _ (n c r : ℕ) (C : 0 < c) (i : FloorSqrt (n / c) r) where
  floor-below : r * r * c ≤ n
  floor-below = (le-div_iff_mul-le C).0 i.least

  floor-above : n < (r + 1) * (r + 1) * c
  floor-above = (div-lt_iff_lt-mul C).0 i.above

  ge-floor : (h : ℕ) → h * h * c ≤ n → h ≤ r
  ge-floor h k = floor-ge i h ((le-div_iff_mul-le C).1 k)

  of-ge-floor : (h : ℕ) → h ≤ r → h * h * c ≤ n
  of-ge-floor h l = le_trans (mul-le-mul_right c (mul-le-mul l l)) floor-below

  exact-side : r * r * c ≡ n → SameSide n c (2 * r)
  exact-side e = record {
    ge = λ (h : ℕ) (k : h * h * c ≤ n). let l = ge-floor h k in omega arith;
    ge' = λ (h : ℕ) (k : 2 * h ≤ 2 * r). of-ge-floor h (omega arith);
    le = λ (h : ℕ) (k : n ≤ h * h * c). let l : r ≤ h = square_le r h (le_of_mul-le-mul_right (le_trans (le_of_eq e) k) C) in omega arith;
    le' = λ (h : ℕ) (k : 2 * r ≤ 2 * h). let l : r ≤ h = omega arith in le_trans (le_of_eq (sym e)) (mul-le-mul_right c (mul-le-mul l l));
  }

  inexact-side : r * r * c < n → SameSide n c (2 * r + 1)
  inexact-side e = record {
    ge = λ (h : ℕ) (k : h * h * c ≤ n). let l = ge-floor h k in omega arith;
    ge' = λ (h : ℕ) (k : 2 * h ≤ 2 * r + 1). of-ge-floor h (omega arith);
    le = λ (h : ℕ) (k : n ≤ h * h * c). let l : r < h = square-lt r h (lt_of_mul-lt-mul_right c (lt_of_lt_of_le e k)) in omega arith;
    le' = λ (h : ℕ) (k : 2 * r + 1 ≤ 2 * h). let l : r + 1 ≤ h = omega arith in le_trans (le_of_lt floor-above) (mul-le-mul_right c (mul-le-mul l l));
  }

pub sticky-side : (n c : ℕ) → 0 < c → SameSide n c (sticky_sqrt n c)
unfolding sticky_sqrt
sticky-side n c C =
    let r = isqrt (n / c) in
    let i = isqrt-is (n / c) in
    go r i (eqb (r * r * c) n) (eqb→eq (r * r * c) n) (λ (e : r * r * c ≡ n). eq→eqb e)
  where
    go : (r : ℕ) → FloorSqrt (n / c) r → (b : Bool) → (T b → r * r * c ≡ n) → (r * r * c ≡ n → T b) → SameSide n c (2 * r + cond b 0 1)
    go r i true p q = rw (add-zero (2 * r)) (exact-side n c r C i (p tt))
    go r i false p q = elim (eq-or-lt_of_le (floor-below n c r C i)) [ inl e ↦ absurd (q e) | inr l ↦ inexact-side n c r C i l ]

-- Of two fractions the larger has a root that is no smaller.
pub side-mono : {n c s n' c' s' : ℕ} → 0 < c → 0 < c' → SameSide n c s → SameSide n' c' s' → n * c' ≤ n' * c → s ≤ s'
side-mono {n} {c} {s} {n'} {c'} {s'} C C' i i' g = elim (eq-zero-or-pos (s' % 2)) [
  | inl e ↦ le_trans (i.le (s' / 2) (at_most (s' / 2) (i'.le' (s' / 2) (omega arith)))) (omega arith)
  | inr l ↦
      let b : n < (s' / 2 + 1) * (s' / 2 + 1) * c =
      below (s' / 2 + 1) (lt_of_not-le (λ (k : (s' / 2 + 1) * (s' / 2 + 1) * c' ≤ n'). let z = i'.ge (s' / 2 + 1) k in omega arith)) in
      let u : s < 2 * (s' / 2 + 1) = lt_of_not-le (λ (k : 2 * (s' / 2 + 1) ≤ s). not-le_of_lt b (i.ge' (s' / 2 + 1) k)) in
      omega arith
]
  where
    at_most : (h : ℕ) → n' ≤ h * h * c' → n ≤ h * h * c
    at_most h k = let l = mul-le-mul_right c k in let z : n * c' ≤ h * h * c * c' = omega arith in le_of_mul-le-mul_right z C'

    below : (h : ℕ) → n' < h * h * c' → n < h * h * c
    below h k = let l = mul-lt-mul_of_pos_right k C in let z : n * c' < h * h * c * c' = omega arith in lt_of_mul-lt-mul_right c' z

pub sticky-mono : (n c n' c' : ℕ) → 0 < c → 0 < c' → n * c' ≤ n' * c → sticky_sqrt n c ≤ sticky_sqrt n' c'
sticky-mono n c n' c' C C' = side-mono C C' (sticky-side n c C) (sticky-side n' c' C')
