-- Floats as whole numbers of units, by the parts that `integer_decode` gives: |x| * 2 ^ d rounded down is one shift (`fixed-decode`),
-- so that u of an angle is one (`angle-near`, and `angle-far` from 2 ^ 24 on).
-- Back to floats: with the sign, `float_negated`, and without, `float-kept`.
use mathlib.Core.Path.{◌≡◌, refl, sym, ap, subst, ◌∙◌}
use mathlib.Core.Logic.{inl, inr}
use mathlib.Core.Bool.{Bool, true, false, true≢false, ◌&&◌}
use Prim.Native.Nat.{ℕ, zero, suc, ◌+◌, ◌*◌, ◌/◌, ◌%◌, ◌^◌, ◌≤◌, ◌<◌, min}
use native.Mathlib.Nat.{not-suc-le-zero, le_trans, le_of_eq, mul-le-mul, mul-lt-mul_of_pos_right}
use native.Mathlib.Nat.{div-lt_iff_lt-mul, lt_of_lt_of_le, div-le_of_le-mul, mul-le-mul_left, mul_comm}
use native.Mathlib.Nat.{mod-eq_of_lt, zero-div, le-div_iff_mul-le}
use native.Mathlib.Omega.{arith}
use borrow.Author.Tests.{ltb-true, ltb-false}
use lib.IntN.{pos}
use lib.Dec.{T, ltb, lit≤}
use lib.Pow.{pow-add, pow_pos, pow_mono}
use lib.Ieee.{Float, nan, inf, fin, binary32, up, down, lt, neg, round, of_bits, fits, size}
use lib.Ieee.Fits.{down_pos}
use lib.Ieee.Nearest.{div_same}
use lib.Ieee.Exact.{HasValue}
use Rattle.float32.proofs.rounding.Monotone.{round-neg}
use Rattle.float32.specs.Abs.{abs}
use Rattle.float_bits.specs.declared.Decoded.{Decoded}
use Rattle.float_bits.specs.Decode.{magnitude, exponent, integer_decode}
use Rattle.float_bits.proofs.Decode.{decode-value, significand-lt, significand-normal}
use Rattle.trig.specs.Units.{fixed, angle_units, nearest_float, with_sign}
use Rattle.trig.specs.SinCos.{near}

-- ---- the parts

none : (a b : ℕ) → 0 * a * 1 / b ≡ 0
none a b = ap (λ (n : ℕ). n / b) (let z : 0 * a * 1 ≡ 0 = omega arith in z) ∙ zero-div b

pub fixed-value : (x : Float) (s : Bool) (d m E : ℕ) → HasValue x s (m * E) (2 ^ 149) → m * 2 ^ d * E / 2 ^ 149 ≡ fixed d x
unfolding fixed
fixed-value nan s d m E h = absurd h
fixed-value (inf t) s d m E h = absurd h
fixed-value (fin t n e) s d m E h =
    sym (div_same (n * up e * 2 ^ d) (down e) (m * 2 ^ d * E) (2 ^ 149) (down_pos e) (pow_pos 149) (regroup (n * up e) (2 ^ d) (2 ^ 149) m E (down e) h.1))
  where
    regroup : (a P L m E D : ℕ) → a * L ≡ m * E * D → a * P * L ≡ m * P * E * D
    regroup a P L m E D h = let k : a * L * P ≡ m * E * D * P = ap (λ (n : ℕ). n * P) h in omega (arith, k)

-- The code's shift of a significand by d places, which does not wrap.
pub shl_exact : (m d : ℕ) → m < 2 ^ 24 → d ≤ 30 → m * 2 ^ d % 2 ^ 64 ≡ m * 2 ^ d
shl_exact m d h k =
    mod-eq_of_lt
    (lt_of_lt_of_le (mul-lt-mul_of_pos_right h (pow_pos d)) (le_trans (le_of_eq (sym (pow-add 2 24 d))) (pow_mono {i = 24 + d} {j = 64} (omega arith))))

-- ---- u of an angle

fixed-decode : (x : Float) → T (fits binary32 x) → (d : ℕ) → (integer_decode x).significand * 2 ^ d * 2 ^ (integer_decode x).exponent / 2 ^ 149 ≡ fixed d x
fixed-decode nan f d = unfold integer_decode magnitude exponent size fixed in none (2 ^ d) (2 ^ 149)
fixed-decode (inf s) f d = unfold integer_decode magnitude exponent size fixed in none (2 ^ d) (2 ^ 149)
fixed-decode (fin s m e) f d =
    fixed-value (fin s m e) (integer_decode (fin s m e)).negative d (integer_decode (fin s m e)).significand
    (2 ^ (integer_decode (fin s m e)).exponent) (decode-value (fin s m e) f tt)

module _ (x : Float) (f : fits binary32 x ≡ true) (d : Decoded) (D : d ≡ integer_decode x) where
  digits : d.significand < 2 ^ 24
  digits = rw D (significand-lt x)

  units : d.significand * 2 ^ 28 * 2 ^ d.exponent / 2 ^ 149 ≡ angle_units x
  units = rw D (fixed-decode x (subst T (sym f) tt) 28)

  pub angle-digits : d.significand * 2 ^ 28 % 2 ^ 64 < 2 ^ 54
  angle-digits = let l = digits in omega (arith, l)

  pub angle-near : d.exponent ≤ 149 → (u : ℕ) → u ≡ d.significand * 2 ^ 28 % 2 ^ 64 * 2 ^ d.exponent / 2 ^ 149 → u ≡ min (angle_units x) (2 ^ 52)
  angle-near h u U =
      let e : u ≡ d.significand * 2 ^ 28 * 2 ^ d.exponent / 2 ^ 149 =
      U ∙ ap (λ (y : ℕ). y * 2 ^ d.exponent / 2 ^ 149) (shl_exact d.significand 28 digits (lit≤ tt)) in
      least u (angle_units x) (e ∙ units) (rw e (le_trans
      (shrinks (d.significand * 2 ^ 28) (2 ^ d.exponent) (2 ^ 149) (pow_mono {i = d.exponent} {j = 149} h)) (let l = digits in omega (arith, l))))
    where
      shrinks : (a b c : ℕ) → b ≤ c → a * b / c ≤ a
      shrinks a b c h = div-le_of_le-mul c (le_trans (mul-le-mul_left a h) (le_of_eq (mul_comm a c)))

      least : (u v : ℕ) → u ≡ v → u ≤ 2 ^ 52 → u ≡ min v (2 ^ 52)
      least u v e h = omega arith

  pub angle-far : 149 < d.exponent → 2 ^ 52 ≡ min (angle_units x) (2 ^ 52)
  angle-far h = greatest (angle_units x)
      (rw (← units) ((le-div_iff_mul-le (pow_pos 149)).1 (grows d.significand (2 ^ d.exponent) normal (pow_mono {i = 150} {j = d.exponent} h))))
    where
      normal : 2 ^ 23 ≤ d.significand
      normal = rw D (elim (significand-normal x)
          [ inl e ↦ absurd (let l : 149 < (integer_decode x).exponent = subst (λ (p : Decoded). 149 < p.exponent) D h in omega (arith, l, e)) | inr l ↦ l ])

      grows : (m E : ℕ) → 2 ^ 23 ≤ m → 2 ^ 150 ≤ E → 2 ^ 52 * 2 ^ 149 ≤ m * 2 ^ 28 * E
      grows m E h k = mul-le-mul (let l : 2 ^ 51 ≤ m * 2 ^ 28 = omega arith in l) k

      greatest : (v : ℕ) → 2 ^ 52 ≤ v → 2 ^ 52 ≡ min v (2 ^ 52)
      greatest v h = omega arith

pub near-units : (a : Float) → near a ≡ true → angle_units a < 2 ^ 52
unfolding lt abs of_bits fixed
near-units nan h = absurd (true≢false (sym h))
near-units (inf s) h = absurd (true≢false (sym h))
near-units (fin s m e) h = (div-lt_iff_lt-mul (down_pos e)).1 (below (m * up e) (down e) (ltb-true (m * up e * 1) (1 * 2 ^ 24 * down e) h))
  where
    below : (a d : ℕ) → a * 1 < 1 * 2 ^ 24 * d → a * 2 ^ 28 < 2 ^ 52 * d
    below a d h = omega arith

-- ---- the float nearest to n units

pub float_negated : (s : Bool) (n : ℕ) → (s && ltb 0 n) ≡ true → neg (round binary32 false n (2 ^ 30)) ≡ nearest_float (with_sign s (pos n))
unfolding nearest_float
float_negated false n h = absurd (true≢false (sym h))
float_negated true zero h = absurd (true≢false (sym h))
float_negated true (suc n) h = sym (round-neg binary32 (suc n) (2 ^ 30))

pub float-kept : (s : Bool) (n : ℕ) → (s && ltb 0 n) ≡ false → round binary32 false n (2 ^ 30) ≡ nearest_float (with_sign s (pos n))
unfolding nearest_float
float-kept false n h = refl
float-kept true zero h = refl
float-kept true (suc n) h = absurd (not-suc-le-zero (ltb-false 0 (suc n) h))
