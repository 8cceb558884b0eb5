-- The bit pattern of a binary32 value that is q * 2 ^ k units of 2 ^ -149, q having 24 digits: k * 2 ^ 23 + q, the carry to 25 digits
-- included (`units-bits`); and how many digits a number between two powers of two has (`size_exact`).
use mathlib.Core.Path.{◌≡◌, sym, ap, ◌∙◌, subst}
use mathlib.Core.Logic.{inl, inr}
use Prim.Native.Nat.{ℕ, suc, ◌+◌, ◌-◌, ◌*◌, ◌/◌, ◌≤◌, ◌<◌, ◌^◌}
use native.Mathlib.Nat.{le_of_eq, lt_of_lt_of_le, lt_of_le_of_lt, lt_of_not-le, lt_irrefl, eq-or-lt_of_le, mul-le-mul}
use native.Mathlib.Nat.{mul-le-mul_right, mul-lt-mul_of_pos_right, mul-pos, mul-div_cancel, zero-lt-suc, zero-add}
use native.Mathlib.Omega.{arith}
use mathlib.Core.Bool.{true, false, true≢false}
use lib.Dec.{lit<}
use lib.Pow.{pow-add, pow_pos, pow_mono}
use lib.Ieee.{Float, nan, inf, fin, binary32, down, size, units, to_bits}
use lib.Ieee.Digits.{size-lt, size-le}
use lib.Ieee.Fits.{down_pos}
use lib.Ieee.Exact.{HasValue, units_val}

pub pow_lt_cancel : (i p : ℕ) → 2 ^ i < 2 ^ p → i < p
pow_lt_cancel i p h = lt_of_not-le (λ (g : p ≤ i). lt_irrefl (2 ^ i) (lt_of_lt_of_le h (pow_mono g)))

pub size_exact : (a n k : ℕ) → 2 ^ (a + k) ≤ n → n < 2 ^ (suc a + k) → size n ≡ suc a + k
size_exact a n k lo hi = close a k (size n) (size-le n (suc a + k) hi) (pow_lt_cancel (a + k) (size n) (lt_of_le_of_lt lo (size-lt n)))
  where
    close : (a k z : ℕ) → z ≤ suc a + k → a + k < z → z ≡ suc a + k
    close a k z h l = omega arith

-- The pattern of a value of n units: the digits dropped are the exponent's field, less one for a leading digit.
pub value-bits : (x : Float) (n : ℕ) → HasValue x false n (2 ^ 149) → to_bits binary32 x ≡ (size n - 24) * 8388608 + n / 2 ^ (size n - 24)
unfolding to_bits
value-bits nan n v = absurd v
value-bits (inf s) n v = absurd v
value-bits (fin true m e) n v = absurd (true≢false v.0)
value-bits (fin false m e) n v =
    ap (λ (x : ℕ). 0 + (size x - 24) * 8388608 + x / 2 ^ (size x - 24)) (ap (λ (x : ℕ). x / down e) v.1 ∙ mul-div_cancel n (down_pos e))
    ∙ ap (λ (x : ℕ). x + n / 2 ^ (size n - 24)) (zero-add ((size n - 24) * 8388608))

pub units-bits : (q k : ℕ) → 2 ^ 23 ≤ q → q ≤ 2 ^ 24 → k ≤ 250 → to_bits binary32 (units binary32 false q k) ≡ k * 8388608 + q
units-bits q k lo hi K =
    value-bits (units binary32 false q k) (q * 2 ^ k) (units_val binary32 false q k small)
    ∙ elim (eq-or-lt_of_le hi) [ inl e ↦ carried e | inr l ↦ plain l ]
  where
    small : q * 2 ^ k < 2 ^ 277
    small = lt_of_le_of_lt (mul-le-mul hi (pow_mono {i = k} {j = 250} K)) (lit< tt)

    plain : q < 2 ^ 24 → (size (q * 2 ^ k) - 24) * 8388608 + q * 2 ^ k / 2 ^ (size (q * 2 ^ k) - 24) ≡ k * 8388608 + q
    plain l =
        let z : size (q * 2 ^ k) ≡ 24 + k = size_exact 23 (q * 2 ^ k) k (rw (pow-add 2 23 k) (mul-le-mul_right (2 ^ k) lo))
        (subst (λ (x : ℕ). q * 2 ^ k < x) (sym (pow-add 2 24 k)) (mul-lt-mul_of_pos_right l (pow_pos k))) in
        ap (λ (x : ℕ). x * 8388608 + q * 2 ^ k / 2 ^ x) (ap (λ (x : ℕ). x - 24) z ∙ dropped k)
        ∙ ap (λ (x : ℕ). k * 8388608 + x) (mul-div_cancel q (pow_pos k))
      where
        dropped : (k : ℕ) → 24 + k - 24 ≡ k
        dropped k = omega arith

    carried : q ≡ 2 ^ 24 → (size (q * 2 ^ k) - 24) * 8388608 + q * 2 ^ k / 2 ^ (size (q * 2 ^ k) - 24) ≡ k * 8388608 + q
    carried e =
        ap (λ (q : ℕ). (size (q * 2 ^ k) - 24) * 8388608 + q * 2 ^ k / 2 ^ (size (q * 2 ^ k) - 24)) e
        ∙ (let z : size (2 ^ 24 * 2 ^ k) ≡ 25 + k = size_exact 24 (2 ^ 24 * 2 ^ k) k (le_of_eq (pow-add 2 24 k))
        (subst (λ (x : ℕ). 2 ^ 24 * 2 ^ k < x) (sym (pow-add 2 25 k)) (mul-lt-mul_of_pos_right (lit< tt) (pow_pos k))) in
        ap (λ (x : ℕ). x * 8388608 + 2 ^ 24 * 2 ^ k / 2 ^ x) (ap (λ (x : ℕ). x - 24) z ∙ dropped k)
        ∙ ap (λ (x : ℕ). (k + 1) * 8388608 + x) (ap (λ (x : ℕ). 2 ^ 24 * 2 ^ k / x) (pow-add 2 k 1) ∙ halved (2 ^ k) (pow_pos k))
        ∙ carry k ∙ ap (λ (x : ℕ). k * 8388608 + x) (sym e))
      where
        dropped : (k : ℕ) → 25 + k - 24 ≡ k + 1
        dropped k = omega arith

        carry : (k : ℕ) → (k + 1) * 8388608 + 2 ^ 23 ≡ k * 8388608 + 2 ^ 24
        carry k = omega arith

        halved : (P : ℕ) → 0 < P → 2 ^ 24 * P / (P * 2 ^ 1) ≡ 2 ^ 23
        halved P p = ap (λ (x : ℕ). x / (P * 2)) (twice P) ∙ mul-div_cancel (2 ^ 23) (mul-pos p (zero-lt-suc 1))
          where
            twice : (P : ℕ) → 2 ^ 24 * P ≡ 2 ^ 23 * (P * 2)
            twice P = omega arith
