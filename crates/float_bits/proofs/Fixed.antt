-- A whole number n over 2 ^ d becomes the nearest float from its count of leading zeros: moved up by them it has 64 digits and keeps 24, and the bits are
-- that significand under the exponent 189 less the zeros less d (`fixed-pattern`). `closest-carry` says which
-- whole number is nearest. Rests on `units-bits` of `rounding`, which has the carry to 25 digits.
use mathlib.Core.Path.{◌≡◌, refl, sym, ap, ◌∙◌, subst}
use mathlib.Core.Bool.{Bool, false, not}
use Prim.Native.Nat.{ℕ, suc, ◌+◌, ◌-◌, ◌*◌, ◌/◌, ◌%◌, ◌^◌, ◌≤◌, ◌<◌, compare, Ordering}
use native.Mathlib.Nat.{le_trans, le_of_eq, lt_of_lt_of_le, mul-le-mul_right, mul-lt-mul_of_pos_right, mul-pos}
use native.Mathlib.Nat.{le-div_iff_mul-le, div-lt_iff_lt-mul, mod-eq_of_lt, zero-mul, zero-lt-suc, add-sub_cancel_left}
use native.Mathlib.Omega.{arith}
use lib.Dec.{T, ltb, ltb→lt, not_T, lit≤}
use lib.Pow.{pow-add, pow_pos}
use lib.Count.{count_leading_zeros, leading_top}
use lib.Ieee.{binary32, size, nearest, units, round, hid, ones, top, of_bits, to_bits, nan_bits}
use lib.Ieee.Fits.{round_is, round-fits, nearest-le}
use lib.Ieee.Nearest.{closest, closest_same, nearest-ge}
use lib.Ieee.Scale.{round_same}
use lib.Ieee.Bits.{of_bits-to_bits, nan_bits_above}
use Rattle.rounding.proofs.Encoding.{size_exact, units-bits}
use Rattle.rounding.proofs.HalfUnits.{Compares, compares}

-- ---- to the nearest whole number: what the rest carries, with just less than a half and the quotient's last digit added to it
pub closest-carry : (w : ℕ) → w / 2 ^ 40 + (w % 2 ^ 40 + 0x7fffffffff + w / 2 ^ 40 % 2) / 2 ^ 40 ≡ closest w (2 ^ 40)
closest-carry w = go (compare (w % 2 ^ 40 * 2) (2 ^ 40)) (compares (w % 2 ^ 40 * 2) (2 ^ 40))
  where
    go : (o : Ordering) → Compares o (w % 2 ^ 40 * 2) (2 ^ 40) → w / 2 ^ 40 + (w % 2 ^ 40 + 0x7fffffffff + w / 2 ^ 40 % 2) / 2 ^ 40 ≡ nearest (w / 2 ^ 40) o
    go Ordering.lt c = omega arith
    go Ordering.eq c = omega arith
    go Ordering.gt c = omega arith

abbrev pub infinity_bits : ℕ
infinity_bits = ones binary32 * hid binary32

-- ---- the bits b are those of the float nearest to n / 2 ^ d, and below an infinity's
pub record Pattern (n d b : ℕ) : Type 0 where
  pub below : b < infinity_bits
  pub is : of_bits binary32 b ≡ round binary32 false n (2 ^ d)

-- z zeros lead the 64 digits of n, whose highest digit is y
module _ (n d z y : ℕ) (e : z + suc y ≡ 64) (lo : 2 ^ y ≤ n) (hi : n < 2 ^ suc y) (D : d < 64) where
  k : ℕ
  k = 189 - z - d

  k-le : k ≤ 189
  unfolding k
  k-le = omega arith

  wide-lo : 2 ^ 63 ≤ n * 2 ^ z
  wide-lo = le_trans (le_of_eq (ap (λ (x : ℕ). 2 ^ x) (let p : 63 ≡ y + z = omega arith in p) ∙ pow-add 2 y z)) (mul-le-mul_right (2 ^ z) lo)

  wide-hi : n * 2 ^ z < 2 ^ 64
  wide-hi = lt_of_lt_of_le (mul-lt-mul_of_pos_right hi (pow_pos z))
      (le_of_eq (sym (pow-add 2 (suc y) z) ∙ ap (λ (x : ℕ). 2 ^ x) (let p : suc y + z ≡ 64 = omega arith in p)))

  q : ℕ
  q = closest (n * 2 ^ z) (2 ^ 40)

  q-lo : 2 ^ 23 ≤ q
  unfolding q
  q-lo = let w = n * 2 ^ z in le_trans (part w wide-lo) (nearest-ge (w / 2 ^ 40) (compare (w % 2 ^ 40 * 2) (2 ^ 40)))
    where
      part : (w : ℕ) → 2 ^ 63 ≤ w → 2 ^ 23 ≤ w / 2 ^ 40
      part w h = omega arith

  q-hi : q ≤ 2 ^ 24
  unfolding q
  q-hi = let w = n * 2 ^ z in le_trans (nearest-le (w / 2 ^ 40) (compare (w % 2 ^ 40 * 2) (2 ^ 40))) (part w wide-hi)
    where
      part : (w : ℕ) → w < 2 ^ 64 → suc (w / 2 ^ 40) ≤ 2 ^ 24
      part w h = omega arith

  -- in units of 2 ^ -149 the fraction has 24 + k digits
  fraction-size : size (n * 2 ^ 149 / 2 ^ d) ≡ 24 + k
  fraction-size =
      size_exact 23 (n * 2 ^ 149 / 2 ^ d) k
      ((le-div_iff_mul-le (pow_pos d)).1
      (le_trans (le_of_eq (sym (pow-add 2 (23 + k) d) ∙ ap (λ (x : ℕ). 2 ^ x) low-place ∙ pow-add 2 y 149)) (mul-le-mul_right (2 ^ 149) lo)))
      ((div-lt_iff_lt-mul (pow_pos d)).1 (lt_of_lt_of_le (mul-lt-mul_of_pos_right hi (pow_pos 149))
      (le_of_eq (sym (pow-add 2 (suc y) 149) ∙ ap (λ (x : ℕ). 2 ^ x) (sym high-place) ∙ pow-add 2 (24 + k) d))))
    where
      low-place : 23 + k + d ≡ y + 149
      low-place = unfold k in omega arith

      high-place : 24 + k + d ≡ suc y + 149
      high-place = unfold k in omega arith

  -- n / 2 ^ d over 2 ^ k units is n * 2 ^ z over 2 ^ 40
  same-fraction : n * 2 ^ 149 * 2 ^ 40 ≡ n * 2 ^ z * (2 ^ d * 2 ^ k)
  same-fraction =
      regroup n (2 ^ 149) (2 ^ 40) (2 ^ z) (2 ^ d * 2 ^ k)
      (sym (pow-add 2 149 40) ∙ ap (λ (x : ℕ). 2 ^ x) places ∙ pow-add 2 z (d + k) ∙ ap (λ (x : ℕ). 2 ^ z * x) (pow-add 2 d k))
    where
      places : 149 + 40 ≡ z + (d + k)
      places = unfold k in omega arith

      regroup : (n a b c d : ℕ) → a * b ≡ c * d → n * a * b ≡ n * c * d
      regroup n a b c d e = let g = ap (λ (x : ℕ). n * x) e in omega (arith, g)

  round-units : round binary32 false n (2 ^ d) ≡ units binary32 false q k
  unfolding q
  round-units =
      round_is binary32 false n (2 ^ d)
      ∙ ap (λ (x : ℕ). units binary32 false (closest (n * 2 ^ 149) (2 ^ d * 2 ^ x)) x) (ap (λ (x : ℕ). x - 24) fraction-size ∙ add-sub_cancel_left 24 k)
      ∙ ap (λ (x : ℕ). units binary32 false x k)
      (closest_same (n * 2 ^ 149) (2 ^ d * 2 ^ k) (n * 2 ^ z) (2 ^ 40) (mul-pos (pow_pos d) (pow_pos k)) (pow_pos 40) same-fraction)

  pattern : Pattern n d (k * hid binary32 + q)
  pattern =
      let x = round binary32 false n (2 ^ d) in
      record {
        below = let h = k-le in let l = q-hi in omega arith;
        is = ap (of_bits binary32) (sym (ap (to_bits binary32) round-units ∙ units-bits q k q-lo q-hi (le_trans k-le (lit≤ tt))))
            ∙ of_bits-to_bits binary32 x (round-fits binary32 false n (2 ^ d));
      }

  moved : (r : ℕ) → r ≡ closest (n * 2 ^ z % 2 ^ 64) (2 ^ 40) → (r ≤ 2 ^ 24) × Pattern n d ((189 - z - d) * hid binary32 + r)
  unfolding k q
  moved r h =
      let e : r ≡ q = h ∙ ap (λ (x : ℕ). closest x (2 ^ 40)) (mod-eq_of_lt wide-hi) in
      (rw e q-hi, rw e pattern)

-- ---- the code's steps
pub zeros-lt : (n : ℕ) → 0 < n → n < 2 ^ 64 → count_leading_zeros 64 n < 64
zeros-lt n p h = let t = leading_top 64 n p h in close (count_leading_zeros 64 n) t.0 t.1
  where
    close : (z y : ℕ) → z + suc y ≡ 64 → z < 64
    close z y e = omega arith

pub fixed-pattern : (n d r : ℕ) → 0 < n → n < 2 ^ 64 → d < 64 → r ≡ closest (n * 2 ^ count_leading_zeros 64 n % 2 ^ 64) (2 ^ 40)
    → (r ≤ 2 ^ 24) × Pattern n d ((189 - count_leading_zeros 64 n - d) * hid binary32 + r)
fixed-pattern n d r p h D e = let t = leading_top 64 n p h in moved n d (count_leading_zeros 64 n) t.0 t.1 t.2 t.3 D r e

pub fixed_zero : (d : ℕ) → of_bits binary32 0 ≡ round binary32 false 0 (2 ^ d)
fixed_zero d = unsigned ∙ sym (round_same binary32 false 0 (2 ^ d) 0 1 (pow_pos d) (zero-lt-suc 0) (sym (zero-mul (2 ^ d))))
  where
    unsigned : of_bits binary32 0 ≡ round binary32 false 0 1
    unsigned = unfold of_bits round in refl

pub pattern_number : (b : ℕ) → b < infinity_bits → T (not (nan_bits binary32 b))
pattern_number b h =
    subst (λ (b : Bool). T (not b)) (sym (nan_bits_above binary32 b))
    (not_T (ltb infinity_bits (b % top binary32))
    (λ (t : T (ltb infinity_bits (b % top binary32))). absurd (let l = ltb→lt infinity_bits (b % top binary32) t in omega arith)))
