-- What the code's tests say of a float: `positive-tests`, above zero and below +infinity, so no NaN (`positive-number`); `sqrt-infinity`, above zero and
-- no less than it; `sqrt-zero`, equal to zero; `sqrt-nan`, none of these. And a positive float through its significand and exponent (`decoded-sqrt`).
use mathlib.Core.Path.{◌≡◌, refl, sym, ◌∙◌}
use mathlib.Core.Bool.{Bool, true, false, not, ◌&&◌, ◌||◌, beq, true≢false}
use Prim.Native.Nat.{ℕ, zero, suc, ◌+◌, ◌*◌, ◌%◌, ◌^◌, ◌<◌}
use native.Mathlib.Nat.{mul-pos, zero-mul, zero-lt-suc}
use native.Mathlib.Omega.{arith}
use lib.Dec.{T, eqb, ltb, ltb→lt, lt→ltb, not_T}
use lib.Pow.{pow_pos}
use borrow.Author.Tests.{ltb-true, ltb-false, eqb-true}
use lib.Ieee.{Float, nan, inf, fin, Format, binary32, is_nan, up, down, lt, eq, fits, of_bits, nan_bits, ones, hid, top}
use lib.Ieee.Fits.{up_pos}
use lib.Ieee.Bits.{nan_bits_above}
use lib.Ieee.Exact.{HasValue}
use lib.Ieee.Positive.{positive, positive-finite, num, den, den_pos, first_pos, own_value, value_pos}
use Rattle.float_bits.specs.Decode.{integer_decode}
use Rattle.float_bits.proofs.Decode.{decode-value}
use Rattle.square_root.specs.SquareRoot.{sqrt}
use Rattle.square_root.specs.Nearest.{+0}
use Rattle.square_root.specs.means.Steps.{SqrtBits}
use Rattle.square_root.proofs.RoundSqrt.{round_sqrt-same}
use Rattle.square_root.proofs.Monotone.{sqrt-is}

-- ---- the order with zero and +infinity
pub positive-tests : (x : Float) → lt +0 x ≡ true → lt x (inf false) ≡ true → T (positive x)
unfolding lt
positive-tests nan h k = absurd (true≢false (sym h))
positive-tests (inf true) h k = absurd (true≢false (sym h))
positive-tests (inf false) h k = absurd (true≢false (sym k))
positive-tests (fin true m e) h k = absurd (true≢false (sym h))
positive-tests (fin false zero e) h k = absurd (omega (arith, ltb-true (0 * 1 * down e) (0 * up e * 1) h))
positive-tests (fin false (suc m) e) h k = lt→ltb 0 (suc m) (zero-lt-suc m)

pub positive-number : (x : Float) → T (positive x) → T (not (is_nan x))
unfolding is_nan
positive-number nan p = p
positive-number (inf s) p = tt
positive-number (fin s m e) p = tt

pub sqrt-infinity : (f : Format) (x : Float) → lt +0 x ≡ true → lt x (inf false) ≡ false → inf false ≡ sqrt f x
unfolding lt sqrt
sqrt-infinity f nan h k = absurd (true≢false (sym h))
sqrt-infinity f (inf true) h k = absurd (true≢false (sym h))
sqrt-infinity f (inf false) h k = refl
sqrt-infinity f (fin s m e) h k = absurd (true≢false k)

and-true : (a b : Bool) → (a && b) ≡ true → a ≡ true
and-true true b h = refl
and-true false b h = h

pub sqrt-zero : (f : Format) (x : Float) → eq x +0 ≡ true → x ≡ sqrt f x
unfolding eq sqrt
sqrt-zero f nan h = refl
sqrt-zero f (inf s) h = absurd (true≢false (sym h))
sqrt-zero f (fin s zero e) h = refl
sqrt-zero f (fin s (suc m) e) h =
    let p : 0 < suc m * up e = mul-pos (zero-lt-suc m) (up_pos e) in
    absurd (omega (
      arith,
      eqb-true (suc m * up e * 1) (0 * 1 * down e) (and-true (eqb (suc m * up e * 1) (0 * 1 * down e)) (beq s false || eqb (suc m * up e * 1) 0) h),
    ))

pub sqrt-nan : (f : Format) (x : Float) → lt +0 x ≡ false → eq x +0 ≡ false → nan ≡ sqrt f x
unfolding lt eq sqrt
sqrt-nan f nan h k = refl
sqrt-nan f (inf true) h k = refl
sqrt-nan f (inf false) h k = absurd (true≢false h)
sqrt-nan f (fin true zero e) h k = absurd (true≢false (simp zero-mul at k))
sqrt-nan f (fin false zero e) h k = absurd (true≢false (simp zero-mul at k))
sqrt-nan f (fin true (suc m) e) h k = refl
sqrt-nan f (fin false (suc m) e) h k =
    let p : 0 < suc m * up e = mul-pos (zero-lt-suc m) (up_pos e) in
    absurd (omega (arith, ltb-false (0 * 1 * down e) (suc m * up e * 1) h))

-- ---- through significand and exponent
value-cross : (x : Float) (s : Bool) (a c : ℕ) → HasValue x s a c → num x * c ≡ a * den x
value-cross nan s a c h = absurd h
value-cross (inf t) s a c h = absurd h
value-cross (fin t m e) s a c h = h.1

module _ (x : Float) (f : T (fits binary32 x)) (p : T (positive x)) where
  decoded : num x * 2 ^ 149 ≡ (integer_decode x).significand * 2 ^ (integer_decode x).exponent * den x
  decoded = value-cross x (integer_decode x).negative ((integer_decode x).significand * 2 ^ (integer_decode x).exponent)
      (2 ^ 149) (decode-value x f (positive-finite x p))

  pub significand-pos : 0 < (integer_decode x).significand
  significand-pos =
      first_pos (integer_decode x).significand (2 ^ (integer_decode x).exponent)
      (first_pos ((integer_decode x).significand * 2 ^ (integer_decode x).exponent) (den x)
      (rw decoded at (mul-pos (value_pos x (num x) (den x) p (den_pos x) (own_value x p)) (pow_pos 149))))

  pub decoded-sqrt : (r : ℕ) → SqrtBits (integer_decode x).significand (integer_decode x).exponent r → of_bits binary32 r ≡ sqrt binary32 x
  decoded-sqrt r b =
      b.is
      ∙ round_sqrt-same binary32 ((integer_decode x).significand * 2 ^ (integer_decode x).exponent) (2 ^ 149) (num x) (den x) (pow_pos 149) (den_pos x) (sym decoded)
      ∙ sym (sqrt-is binary32 x p)

-- ---- a pattern below that of +infinity is no NaN's
pub bits-number : (r : ℕ) → r < ones binary32 * hid binary32 → T (not (nan_bits binary32 r))
bits-number r h = rw (nan_bits_above binary32 r) (not_T (ltb (ones binary32 * hid binary32) (r % top binary32))
    (λ (t : T (ltb (ones binary32 * hid binary32) (r % top binary32))). let l = ltb→lt (ones binary32 * hid binary32) (r % top binary32) t in omega arith))
