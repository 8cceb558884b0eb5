-- A float's significand and exponent: they are the magnitude exactly (`decode-exact`), and the float's value with its sign (`decode-value`; of a float above
-- zero `decode-positive`). The significand has at most 24 digits (`significand-lt`), all 24 where the exponent is above 0 (`significand-normal`), and is above
-- 0 with the float (`significand-pos`); the exponent is at most 253 (`exponent-le`). Rests on lib.Ieee's `fits`: such a float is a whole number of units.
use mathlib.Core.Path.{◌≡◌, refl, sym, ap, ◌∙◌, subst}
use mathlib.Core.Logic.{◌⊎◌, inl, inr}
use mathlib.Core.Bool.{Bool, true, false, ◌&&◌}
use Prim.Native.Nat.{ℕ, zero, suc, ◌+◌, ◌-◌, ◌*◌, ◌/◌, ◌%◌, ◌^◌, ◌≤◌, ◌<◌}
use native.Mathlib.Nat.{sub-add_cancel, div-lt_iff_lt-mul, le_trans, le_of_eq, lt_of_lt_of_le, lt_of_le_of_lt, le_of_suc-le-suc, eq-zero-or-pos}
use native.Mathlib.Nat.{mul-one, one-mul, mul_assoc, mul_right_comm, mul-lt-mul_of_pos_right, mul-pos, mul-div_cancel, le-div_iff_mul-le, zero-mul}
use native.Mathlib.Omega.{arith}
use lib.IntN.{ℤ, pos, negsuc}
use lib.Dec.{T, leb, ltb, eqb, leb→le, ltb→lt, eqb→eq, lit≤, lit<}
use lib.Pow.{pow-add, pow_pos, pow-lt}
use lib.Ieee.{Float, nan, inf, fin, binary32, up, down, size, fits}
use lib.Ieee.Digits.{size-le, size_reaches}
use lib.Ieee.Fits.{down_pos, kept-lt, and_l, and_r}
use lib.Ieee.Exact.{HasValue}
use lib.Ieee.Scale.{finite}
use lib.Ieee.Positive.{positive, positive-finite, first_pos, value_pos}
use Rattle.rounding.proofs.Encoding.{pow_lt_cancel}
use Rattle.float_bits.specs.Decode.{negative, magnitude, exponent, integer_decode}

-- ---- a float that fits is a whole number of units: m * 2 ^ e is m * 2 ^ (e + 149) of them
least-place : (s : Bool) (m : ℕ) (e : ℤ) → T (fits binary32 (fin s m e)) → down e ≤ 2 ^ 149
unfolding fits
least-place s zero (pos k) f = lit≤ tt
least-place s zero (negsuc k) f = le_trans (le_of_eq (sym (one-mul (2 ^ suc k)) ∙ eqb→eq (1 * 2 ^ suc k) 1 f)) (lit≤ tt)
least-place s (suc m) e f =
    leb→le (down e) (2 ^ 149)
    (and_r (eqb (suc m % 2) 1 && ltb (suc m) (2 ^ 24)) (leb (down e) (2 ^ 149))
    (and_l (eqb (suc m % 2) 1 && ltb (suc m) (2 ^ 24) && leb (down e) (2 ^ 149)) (ltb (suc m * up e) (2 ^ 128 * down e)) f))

odd-lt : (s : Bool) (m : ℕ) (e : ℤ) → T (fits binary32 (fin s m e)) → m < 2 ^ 24
unfolding fits
odd-lt s zero e f = lit< tt
odd-lt s (suc m) e f =
    ltb→lt (suc m) (2 ^ 24)
    (and_r (eqb (suc m % 2) 1) (ltb (suc m) (2 ^ 24))
    (and_l (eqb (suc m % 2) 1 && ltb (suc m) (2 ^ 24)) (leb (down e) (2 ^ 149))
    (and_l (eqb (suc m % 2) 1 && ltb (suc m) (2 ^ 24) && leb (down e) (2 ^ 149)) (ltb (suc m * up e) (2 ^ 128 * down e)) f)))

under_top : (s : Bool) (m : ℕ) (e : ℤ) → T (fits binary32 (fin s m e)) → m * up e < 2 ^ 128 * down e
unfolding fits
under_top s zero e f = rw (zero-mul (up e)) (mul-pos (pow_pos 128) (down_pos e))
under_top s (suc m) e f =
    ltb→lt (suc m * up e) (2 ^ 128 * down e)
    (and_r (eqb (suc m % 2) 1 && ltb (suc m) (2 ^ 24) && leb (down e) (2 ^ 149)) (ltb (suc m * up e) (2 ^ 128 * down e)) f)

places : (e : ℤ) → down e ≤ 2 ^ 149 → (j : ℕ) × (2 ^ j * down e ≡ up e * 2 ^ 149)
places (pos k) h = (k + 149, mul-one (2 ^ (k + 149)) ∙ pow-add 2 k 149)
places (negsuc k) h =
    let l : suc k ≤ 149 = le_of_suc-le-suc (pow_lt_cancel (suc k) 150 (lt_of_le_of_lt h (pow-lt {i = 149} {j = 150} (lit< tt)))) in
    (149 - suc k, sym (pow-add 2 (149 - suc k) (suc k)) ∙ ap (λ (x : ℕ). 2 ^ x) (back (suc k) l) ∙ sym (one-mul (2 ^ 149)))
  where
    back : (i : ℕ) → i ≤ 149 → 149 - i + i ≡ 149
    back i h = omega arith

module _ (s : Bool) (m : ℕ) (e : ℤ) (f : T (fits binary32 (fin s m e))) where
  j : ℕ
  j = (places e (least-place s m e f)).0

  scaled : m * 2 ^ j * down e ≡ m * up e * 2 ^ 149
  unfolding j
  scaled = mul_assoc m (2 ^ j) (down e) ∙ ap (λ (x : ℕ). m * x) (places e (least-place s m e f)).1 ∙ sym (mul_assoc m (up e) (2 ^ 149))

  whole-units : magnitude (fin s m e) ≡ m * 2 ^ j
  unfolding magnitude
  whole-units = ap (λ (x : ℕ). x / down e) (sym scaled) ∙ mul-div_cancel (m * 2 ^ j) (down_pos e)

  units-value : m * up e * 2 ^ 149 ≡ magnitude (fin s m e) * down e
  units-value = sym scaled ∙ ap (λ (x : ℕ). x * down e) (sym whole-units)

  units_lt : magnitude (fin s m e) < 2 ^ 277
  unfolding magnitude
  units_lt =
      (div-lt_iff_lt-mul (down_pos e)).1
      (lt_of_lt_of_le (mul-lt-mul_of_pos_right (under_top s m e f) (pow_pos 149))
      (le_of_eq (mul_right_comm (2 ^ 128) (down e) (2 ^ 149) ∙ ap (λ (x : ℕ). x * down e) (sym (pow-add 2 128 149)))))

  -- m has 24 digits at most, so that no more than the j zeros after it are dropped
  dropped-le : exponent (fin s m e) ≤ j
  unfolding exponent
  dropped-le =
      spare (size (magnitude (fin s m e))) j
      (size-le (magnitude (fin s m e)) (24 + j)
      (rw (whole-units, pow-add 2 24 j) (mul-lt-mul_of_pos_right (odd-lt s m e f) (pow_pos j))))
    where
      spare : (z j : ℕ) → z ≤ 24 + j → z - 24 ≤ j
      spare z j h = omega arith

  dropped-zeros : magnitude (fin s m e) / 2 ^ exponent (fin s m e) * 2 ^ exponent (fin s m e) ≡ magnitude (fin s m e)
  dropped-zeros =
      let k = exponent (fin s m e) in
      let n : magnitude (fin s m e) ≡ m * 2 ^ (j - k) * 2 ^ k = whole-units ∙ ap (λ (x : ℕ). m * 2 ^ x) (sym (sub-add_cancel dropped-le))
      ∙ ap (λ (x : ℕ). m * x) (pow-add 2 (j - k) k) ∙ sym (mul_assoc m (2 ^ (j - k)) (2 ^ k)) in
      ap (λ (x : ℕ). x / 2 ^ k * 2 ^ k) n ∙ ap (λ (x : ℕ). x * 2 ^ k) (mul-div_cancel (m * 2 ^ (j - k)) (pow_pos k)) ∙ sym n

-- ---- the laws of the parts
module _ (x : Float) (f : T (fits binary32 x)) where
  pub magnitude-lt : magnitude x < 2 ^ 277
  magnitude-lt = go x f
    where
      go : (x : Float) → T (fits binary32 x) → magnitude x < 2 ^ 277
      go nan f = unfold magnitude in lit< tt
      go (inf s) f = unfold magnitude in lit< tt
      go (fin s m e) f = units_lt s m e f

  pub exponent-le : (integer_decode x).exponent ≤ 253
  unfolding integer_decode exponent
  exponent-le = spare (size (magnitude x)) (size-le (magnitude x) 277 magnitude-lt)
    where
      spare : (z : ℕ) → z ≤ 277 → z - 24 ≤ 253
      spare z h = omega arith

  pub decode-exact : (integer_decode x).significand * 2 ^ (integer_decode x).exponent ≡ magnitude x
  unfolding integer_decode
  decode-exact = go x f
    where
      go : (x : Float) → T (fits binary32 x) → magnitude x / 2 ^ exponent x * 2 ^ exponent x ≡ magnitude x
      go nan f = unfold magnitude exponent size in refl
      go (inf s) f = unfold magnitude exponent size in refl
      go (fin s m e) f = dropped-zeros s m e f

  pub decode-value : T (finite x) → HasValue x (integer_decode x).negative ((integer_decode x).significand * 2 ^ (integer_decode x).exponent) (2 ^ 149)
  decode-value p = rw decode-exact (go x f p)
    where
      go : (x : Float) → T (fits binary32 x) → T (finite x) → HasValue x (integer_decode x).negative (magnitude x) (2 ^ 149)
      go nan f p = absurd p
      go (inf s) f p = absurd p
      go (fin s m e) f p = (unfold integer_decode negative in refl, units-value s m e f)

-- ---- above zero the sign is clear and a digit is set
pub negative-positive : (x : Float) → T (positive x) → (integer_decode x).negative ≡ false
unfolding integer_decode negative
negative-positive nan p = absurd p
negative-positive (inf s) p = absurd p
negative-positive (fin true m e) p = absurd p
negative-positive (fin false m e) p = refl

pub decode-positive : (x : Float) → T (fits binary32 x) → T (positive x)
    → HasValue x false ((integer_decode x).significand * 2 ^ (integer_decode x).exponent) (2 ^ 149)
decode-positive x f p =
    subst (λ (n : Bool). HasValue x n ((integer_decode x).significand * 2 ^ (integer_decode x).exponent) (2 ^ 149))
    (negative-positive x p) (decode-value x f (positive-finite x p))

pub significand-pos : (x : Float) → T (fits binary32 x) → T (positive x) → 0 < (integer_decode x).significand
significand-pos x f p =
    first_pos (integer_decode x).significand (2 ^ (integer_decode x).exponent)
    (value_pos x ((integer_decode x).significand * 2 ^ (integer_decode x).exponent) (2 ^ 149) p (pow_pos 149) (decode-positive x f p))

-- ---- the digits
pub significand-lt : (x : Float) → (integer_decode x).significand < 2 ^ 24
unfolding integer_decode exponent
significand-lt x = kept-lt 24 (magnitude x)

pub significand-normal : (x : Float) → ((integer_decode x).exponent ≡ 0) ⊎ (2 ^ 23 ≤ (integer_decode x).significand)
unfolding integer_decode exponent
significand-normal x =
    let n = magnitude x in
    let k = size n - 24 in
    elim (eq-zero-or-pos k) [
      | inl z ↦ inl z
      | inr p ↦ inr ((le-div_iff_mul-le (pow_pos k)).1 (le_trans (le_of_eq (sym (pow-add 2 23 k))) (size_reaches n (23 + k) (spare (size n) p))))
    ]
  where
    spare : (z : ℕ) → 0 < z - 24 → 23 + (z - 24) < z
    spare z p = omega arith
