-- The slices of the unit interval. They rise (`slice_end-mono`), from 0 (`slice_end-first`) to 1 (`slice_end-last`), each within the unit interval
-- (`slice-unit`); one that is cut finer lies in the one it was cut from (`slice-finer`); every float from 0 to 1 lies in one (`slice-covers`).
-- Ends are exact (`slice_end-exact`), so that each is the one before it and the first beyond 0 (`slice_end-next`). All else rests on monotone rounding.
use mathlib.Core.Path.{◌≡◌, refl, sym, ap, ◌∙◌, subst}
use mathlib.Core.Logic.{inl, inr}
use mathlib.Core.Bool.{false}
use Prim.Native.Nat.{ℕ, zero, suc, ◌+◌, ◌-◌, ◌*◌, ◌/◌, ◌^◌, ◌≤◌, ◌<◌}
use native.Mathlib.Nat.{le_refl, le_step, le_of_eq, le_of_lt, mul-pos, lt_irrefl, le_trans, lt_of_le_of_lt, mul_assoc, mul-le-mul_left}
use native.Mathlib.Nat.{mul-le-mul_right, div-mul-le_self, lt-div-mul-add, div-lt_iff_lt-mul, zero-lt-suc}
use native.Mathlib.Numerals.{add-one}
use native.Mathlib.Omega.{arith}
use lib.Dec.{lit<}
use lib.Pow.{pow_pos, pow-add, pow_mono}
use lib.Ieee.{Float, binary32, round, of_bits}
use lib.Ieee.Exact.{HasValue, round_exact}
use lib.Ieee.Scale.{round_same}
use Rattle.interval.specs.rounding.Order.{◌≼◌}
use Rattle.interval.proofs.rounding.Order.{≼-total, number-left}
use Rattle.interval.proofs.rounding.Monotone.{round_mono}
use Rattle.interval.proofs.rounding.Arithmetic.{add_at}
use Rattle.interval.specs.float32.Operators.{◌⊕◌, one}
use Rattle.interval.specs.Contains.{Contains, Subset}
use Rattle.unit_interval.specs.Unit.{unit_interval, slice_end, slice}

-- k / 2 ^ d ≤ k' / 2 ^ d'
pub slice_end-mono : (d d' k k' : ℕ) → k * 2 ^ d' ≤ k' * 2 ^ d → slice_end d k ≼ slice_end d' k'
unfolding slice_end
slice_end-mono d d' k k' h = round_mono binary32 false false k k' (2 ^ d) (2 ^ d') (pow_pos d) (pow_pos d') (omega arith)

pub slice_end-first : (d : ℕ) → slice_end d 0 ≡ of_bits binary32 0
unfolding slice_end round of_bits
slice_end-first d = round_same binary32 false 0 (2 ^ d) 0 1 (pow_pos d) (zero-lt-suc 0) (omega arith)

pub slice_end-last : (d : ℕ) → slice_end d (2 ^ d) ≡ one
unfolding slice_end round of_bits
slice_end-last d = round_same binary32 false (2 ^ d) (2 ^ d) 1 1 (pow_pos d) (zero-lt-suc 0) (omega arith)

pub slice_end-exact : (d k : ℕ) → d ≤ 12 → k ≤ 2 ^ d → HasValue (slice_end d k) false k (2 ^ d)
unfolding slice_end
slice_end-exact d k h l =
    let K : k ≤ 2 ^ 12 = le_trans l (pow_mono {i = d} {j = 12} h) in
    let J : 2 ^ (149 - d) ≤ 2 ^ 149 = pow_mono {i = 149 - d} {j = 149} (omega arith) in
    let E : 2 ^ 149 ≡ 2 ^ (149 - d) * 2 ^ d = ap (λ (n : ℕ). 2 ^ n) (whole d h) ∙ pow-add 2 (149 - d) d in
    round_exact binary32 false k (2 ^ d) k (149 - d) (pow_pos d) (lt_of_le_of_lt K (lit< tt))
    (lt_of_le_of_lt (le_trans (mul-le-mul_right (2 ^ (149 - d)) K) (mul-le-mul_left (2 ^ 12) J)) (lit< tt))
    (ap (λ (n : ℕ). k * n) E ∙ sym (mul_assoc k (2 ^ (149 - d)) (2 ^ d)))
  where
    whole : (d : ℕ) → d ≤ 12 → 149 ≡ 149 - d + d
    whole d h = omega arith

-- So a border of a loop over slices is the one before it and the width of a slice, to the bit.
pub slice_end-next : (d k : ℕ) → d ≤ 12 → k < 2 ^ d → slice_end d k ⊕ slice_end d 1 ≡ slice_end d (k + 1)
slice_end-next d k h l =
    let P = pow_pos d in
    add_at binary32 (slice_end d k) (slice_end d 1) k (2 ^ d) 1 (2 ^ d) P P (slice_end-exact d k h (le_of_lt l)) (slice_end-exact d 1 h P)
    ∙ unfold slice_end in round_same binary32 false (k * 2 ^ d + 1 * 2 ^ d) (2 ^ d * 2 ^ d) (k + 1) (2 ^ d) (mul-pos P P) P (regroup k (2 ^ d))
  where
    regroup : (k p : ℕ) → (k * p + 1 * p) * p ≡ (k + 1) * (p * p)
    regroup k p = omega arith

-- ---- slices
pub slice-unit : (d k : ℕ) → k < 2 ^ d → Subset (slice d k) unit_interval
unfolding slice
slice-unit d k h =
    record {
      low = subst (λ (x : Float). x ≼ slice_end d k) (slice_end-first d) (slice_end-mono d d 0 k (omega arith));
      proper = slice_end-mono d d k (k + 1) (omega arith);
      high = subst (λ (x : Float). slice_end d (k + 1) ≼ x) (slice_end-last d) (slice_end-mono d d (k + 1) (2 ^ d) (mul-le-mul_right (2 ^ d) (omega arith)));
    }

-- A slice of depth d + n lies in the slice of depth d that it was cut from.
pub slice-finer : (d n k : ℕ) → Subset (slice (d + n) k) (slice d (k / 2 ^ n))
unfolding slice
slice-finer d n k =
    let q = k / 2 ^ n in
    record {
      low = slice_end-mono d (d + n) q k (rw (pow-add 2 d n) (below q (2 ^ d) (2 ^ n) k (div-mul-le_self k (2 ^ n))));
      proper = slice_end-mono (d + n) (d + n) k (k + 1) (omega arith);
      high = slice_end-mono (d + n) d (k + 1) (q + 1) (rw (pow-add 2 d n) (above q (2 ^ d) (2 ^ n) k (lt-div-mul-add {a = k} {b = 2 ^ n} (pow_pos n))));
    }
  where
    below : (q a b k : ℕ) → q * b ≤ k → q * (a * b) ≤ k * a
    below q a b k h = omega (arith, mul-le-mul_right a h)

    above : (q a b k : ℕ) → k < q * b + b → (k + 1) * a ≤ (q + 1) * (a * b)
    above q a b k h = omega (arith, mul-le-mul_right a h)

pub finer-lt : (d n k : ℕ) → k < 2 ^ (d + n) → k / 2 ^ n < 2 ^ d
finer-lt d n k h = (div-lt_iff_lt-mul (pow_pos n)).1 (subst (λ (m : ℕ). k < m) (pow-add 2 d n) h)

-- ---- every float from 0 to 1 lies in a slice
pub record InSlice (d : ℕ) (x : Float) : Type 0 where
  pub index : ℕ
  pub below : index < 2 ^ d
  pub contains : Contains (slice d index) x

-- In one of the first n slices, up to whose end x is.
among : (d n : ℕ) {x : Float} → suc n ≤ 2 ^ d → slice_end d 0 ≼ x → x ≼ slice_end d (suc n) → InSlice d x
unfolding slice
among d zero l h k = record { index = 0; below = l; contains = record { low = h; high = k } }
among d (suc n) {x} l h k =
    elim (≼-total x (slice_end d (suc n)) (number-left k) (number-left (slice_end-mono d d (suc n) (suc n) (le_refl (suc n * 2 ^ d))))) [
      | inl i ↦ among d n (le_trans (le_step (le_refl (suc n))) l) h i
      | inr i ↦ record { index = suc n; below = l; contains = record { low = i; high = subst (λ (m : ℕ). x ≼ slice_end d m) (sym (add-one (suc n))) k } }
    ]

pub slice-covers : (d : ℕ) {x : Float} → Contains unit_interval x → InSlice d x
slice-covers d {x} i = go (2 ^ d) refl
  where
    go : (n : ℕ) → 2 ^ d ≡ n → InSlice d x
    go zero e = absurd (lt_irrefl 0 (subst (λ (m : ℕ). 0 < m) e (pow_pos d)))
    go (suc n) e =
        among d n (le_of_eq (sym e)) (subst (λ (z : Float). z ≼ x) (sym (slice_end-first d)) i.low)
        (subst (λ (z : Float). x ≼ z) (sym (slice_end-last d) ∙ ap (slice_end d) e) i.high)
