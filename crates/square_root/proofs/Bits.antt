-- The square root of m * 2 ^ e units of binary32, as the code finds it: m is widened to 47 or 48 digits (`widened`), and the whole number nearest to the root
-- of that, with its exponent, is the pattern of the result (`sqrt-bits`).
use mathlib.Core.Path.{◌≡◌, refl, sym, ap, ◌∙◌}
use mathlib.Core.Logic.{inl, inr}
use Prim.Native.Nat.{ℕ, zero, suc, ◌+◌, ◌-◌, ◌*◌, ◌/◌, ◌%◌, ◌≤◌, ◌<◌, ◌^◌, compare}
use native.Mathlib.Nat.{le_trans, le_of_eq, lt_of_lt_of_le, lt_of_le_of_lt, lt_of_not-le, mul-le-mul, mul-le-mul_right}
use native.Mathlib.Nat.{mul-lt-mul_of_pos_right, mul-pos, eq-zero-or-pos, le-div_iff_mul-le, div-lt_iff_lt-mul, zero-lt-suc, mod-eq_of_lt}
use native.Mathlib.Omega.{arith}
use mathlib.Core.Bool.{false}
use lib.Dec.{lit≤}
use lib.Pow.{pow-add, pow_pos, pow_mono}
use lib.Count.{count_leading_zeros, leading_top}
use lib.Ieee.{binary32, hid, size, nearest, units, round, of_bits}
use lib.Ieee.Fits.{round_is, round-fits}
use lib.Ieee.Nearest.{closest, closest_same}
use lib.Ieee.Order.{drop}
use lib.Ieee.Bits.{of_bits-to_bits}
use Rattle.float_bits.proofs.rounding.Encoding.{pow_lt_cancel, size_exact, units-bits}
use Rattle.square_root.specs.SquareRoot.{sticky_sqrt}
use Rattle.square_root.specs.Nearest.{SameSide}
use Rattle.square_root.specs.means.Steps.{NearestWhole, Widened, SqrtBits}
use Rattle.square_root.proofs.Sticky.{sticky-side}
use Rattle.square_root.proofs.RoundSqrt.{pow-four, root-nearest}

-- ---- the significand widened
-- The highest digit of m is that of 2 ^ y, and z zeros lead it in 64 digits.
record Leading (m y z : ℕ) : Type 0 where
  pub zeros : z + suc y ≡ 64
  pub few : y < 24
  pub least : 2 ^ y ≤ m
  pub most : m < 2 ^ suc y

leading : (m : ℕ) → 0 < m → m < 2 ^ 24 → (y : ℕ) × Leading m y (count_leading_zeros 64 m)
leading m M h =
    let t = leading_top 64 m M (lt_of_lt_of_le h (lit≤ tt)) in
    (t.0, record { zeros = t.1; few = pow_lt_cancel t.0 24 (lt_of_le_of_lt t.2 h); least = t.2; most = t.3 })

pub leading-ge : (m : ℕ) → 0 < m → m < 2 ^ 24 → 40 ≤ count_leading_zeros 64 m
leading-ge m M h = let t = (leading m M h).1 in omega (arith, t.zeros, t.few)

leading-normal : (m : ℕ) → 2 ^ 23 ≤ m → m < 2 ^ 24 → count_leading_zeros 64 m ≡ 40
leading-normal m l h = let t = leading m (lt_of_lt_of_le (pow_pos 23) l) h in
    let k = pow_lt_cancel 23 (suc t.0) (lt_of_le_of_lt l t.1.most) in omega (arith, t.1.zeros, t.1.few)

-- The digits of m and the shift, which is 17 less than the zeros, or 16 less where their sum with e is odd.
pub widened : (m e i : ℕ) → 0 < m → m < 2 ^ 24 → i + 17 ≡ count_leading_zeros 64 m + (count_leading_zeros 64 m + e) % 2 → Widened m e i
widened m e i M h I = go (leading m M h).0 (count_leading_zeros 64 m) (leading m M h).1 I
  where
    go : (y z : ℕ) → Leading m y z → i + 17 ≡ z + (z + e) % 2 → Widened m e i
    go y z l I =
        let a = l.zeros in
        let b = l.few in
        record {
          shift = omega arith;
          least = le_trans (pow_mono {i = 46} {j = y + i} (omega arith)) (le_trans (le_of_eq (pow-add 2 y i)) (mul-le-mul_right (2 ^ i) l.least));
          most = lt_of_lt_of_le (mul-lt-mul_of_pos_right l.most (pow_pos i))
              (le_trans (le_of_eq (sym (pow-add 2 (suc y) i))) (pow_mono {i = suc y + i} {j = 48} (omega arith)));
          even = omega arith;
        }

pub widened-normal : (m e : ℕ) → 2 ^ 23 ≤ m → m < 2 ^ 24 → Widened m e (23 + e % 2)
widened-normal m e l h = widened m e (23 + e % 2) (lt_of_lt_of_le (pow_pos 23) l) h (rw (leading-normal m l h) (omega arith))

pub widened-exact : {m e i : ℕ} → Widened m e i → m * 2 ^ i % 2 ^ 64 ≡ m * 2 ^ i
widened-exact w = mod-eq_of_lt (lt_of_lt_of_le w.most (lit≤ tt))

-- ---- quarters of 2 ^ k units, s of them having 26 digits, are rounded to the nearest number of 2 ^ k units. L units are the number 1, and D = 4 * L
module _ (s k L D : ℕ) (lo : 2 ^ 25 ≤ s) (hi : s < 2 ^ 26) (W : 0 < L) (E : D ≡ L * 4) where
  quarters-size : size (s * 2 ^ k * L / D) ≡ 24 + k
  quarters-size =
      let P = 2 ^ k in
      let W' : 0 < D = rw E (mul-pos W (zero-lt-suc 3)) in
      let p = mul-le-mul_right (P * L) lo in
      let q = mul-lt-mul_of_pos_right hi (mul-pos (pow_pos k) W) in
      size_exact 23 (s * P * L / D) k
      ((le-div_iff_mul-le W').1 (rw (pow-add 2 23 k, E) (omega arith)))
      ((div-lt_iff_lt-mul W').1 (rw (pow-add 2 24 k, E) (omega arith)))

  quarters-drop : drop 24 (s * 2 ^ k * L) D ≡ k
  quarters-drop = rw quarters-size (omega arith)

  quarters-closest : closest (s * 2 ^ k * L) (D * 2 ^ k) ≡ closest s 4
  quarters-closest = closest_same (s * 2 ^ k * L) (D * 2 ^ k) s 4 (rw E (mul-pos (mul-pos W (zero-lt-suc 3)) (pow_pos k))) (zero-lt-suc 3) (rw E (omega arith))

module _ (s k : ℕ) (lo : 2 ^ 25 ≤ s) (hi : s < 2 ^ 26) where
  dropped : drop 24 (s * 2 ^ k * 2 ^ 149) (2 ^ 151) ≡ k
  dropped = quarters-drop s k (2 ^ 149) (2 ^ 151) lo hi (pow_pos 149) refl

  round-quarters : round binary32 false (s * 2 ^ k) (2 ^ 151) ≡ units binary32 false (closest s 4) k
  round-quarters =
      round_is binary32 false (s * 2 ^ k) (2 ^ 151)
      ∙ ap (λ (x : ℕ). units binary32 false (closest (s * 2 ^ k * 2 ^ 149) (2 ^ 151 * 2 ^ x)) x) dropped
      ∙ ap (λ (x : ℕ). units binary32 false x k) (quarters-closest s k (2 ^ 149) (2 ^ 151) lo hi (pow_pos 149) refl)

-- s quarters that are less than a half away from r.
quarters-near : (s r : ℕ) → 4 * r < s + 2 → s < 4 * r + 2 → closest s 4 ≡ r
quarters-near s r lo hi = go (s / 4) (s % 4) (omega arith) (omega arith)
  where
    go : (q d : ℕ) → s ≡ 4 * q + d → d < 4 → nearest q (compare (d * 2) 4) ≡ r
    go q zero e l = omega arith
    go q (suc zero) e l = omega arith
    go q (suc (suc zero)) e l = absurd (omega arith)
    go q (suc (suc (suc zero))) e l = omega arith
    go q (suc (suc (suc (suc d)))) e l = absurd (omega arith)

-- ---- r is the whole number nearest to √a, a having 47 or 48 digits, and s quarters are on the same side of every half as √a
below-nearest : (a r t : ℕ) → NearestWhole a r → r ≡ t + 1 → t * t + t < a
below-nearest a r t near e = let h = rw e at near.above in omega arith

module _ (a r s : ℕ) (lo : 2 ^ 46 ≤ a) (hi : a < 2 ^ 48) (near : NearestWhole a r) (side : SameSide (4 * a) 1 s) where
  nearest-least : 2 ^ 23 ≤ r
  nearest-least =
      let l : 2 ^ 23 < r + 1 =
      lt_of_not-le (λ (h : r + 1 ≤ 2 ^ 23). let k : (r + 1) * (r + 1) ≤ 2 ^ 23 * 2 ^ 23 = mul-le-mul h h in omega (arith, near.below)) in
      omega arith

  nearest-most : r ≤ 2 ^ 24
  nearest-most = elim (eq-zero-or-pos (r - 2 ^ 24)) [ inl z ↦ omega arith | inr l ↦ absurd (past (r - 1) (omega arith) (omega arith)) ]
    where
      past : (t : ℕ) → r ≡ t + 1 → 2 ^ 24 ≤ t → ⊥
      past t e l = let k : 2 ^ 24 * 2 ^ 24 ≤ t * t = mul-le-mul l l in let h = below-nearest a r t near e in omega arith

  side-least : 2 ^ 25 ≤ s
  side-least = side.ge (2 ^ 24) (omega arith)

  side-most : s < 2 ^ 26
  side-most = lt_of_not-le (λ (h : 2 ^ 26 ≤ s). let k = side.ge' (2 ^ 25) h in omega arith)

  side-closest : closest s 4 ≡ r
  side-closest =
      quarters-near s r
      (let l = nearest-least in above (r - 1) (omega arith))
      (lt_of_not-le (λ (h : 4 * r + 2 ≤ s). let k = side.ge' (2 * r + 1) (omega arith) in omega (arith, near.below)))
    where
      above : (t : ℕ) → r ≡ t + 1 → 4 * r < s + 2
      above t e = lt_of_not-le (λ (h : s + 2 ≤ 4 * r). let k = side.le' (2 * t + 1) (omega arith) in let b = below-nearest a r t near e in omega arith)

  -- The pattern of r * 2 ^ k units is that of s * 2 ^ k quarters, rounded.
  nearest-bits : (k : ℕ) → k ≤ 250 → of_bits binary32 (k * hid binary32 + r) ≡ round binary32 false (s * 2 ^ k) (2 ^ 151)
  nearest-bits k K =
      let rounded = round-quarters s k side-least side-most ∙ ap (λ (x : ℕ). units binary32 false x k) side-closest in
      ap (of_bits binary32) (sym (units-bits r k nearest-least nearest-most K))
      ∙ of_bits-to_bits binary32 (units binary32 false r k) (rw rounded at (round-fits binary32 false (s * 2 ^ k) (2 ^ 151)))
      ∙ sym rounded

-- ---- the root of m * 2 ^ e units
half-exponent : (e i half : ℕ) → e ≤ 253 → i ≤ 47 → (149 + e - i) % 2 ≡ 0 → half ≡ (149 + e - i) / 2 → (half ≤ 201) × (e + 149 ≡ i + (half + half))
half-exponent e i half k h p H = (omega arith, omega arith)

pub sqrt-bits : (m e i r b : ℕ) → e ≤ 253 → Widened m e i → NearestWhole (m * 2 ^ i) r → b ≡ (149 + e - i) / 2 * hid binary32 + r → SqrtBits m e b
sqrt-bits m e i r b E w near B = rw B (go ((149 + e - i) / 2) (half-exponent e i ((149 + e - i) / 2) E w.shift w.even refl))
  where
    regroup : (m J I P L : ℕ) → J * L ≡ I * (P * P) → m * J * (L * L) ≡ m * I * (P * P) * L
    regroup m J I P L h = let k = ap (λ (x : ℕ). m * L * x) h in omega arith

    in-units : (half : ℕ) → e + 149 ≡ i + (half + half) → m * 2 ^ e * 4 ^ 149 ≡ m * 2 ^ i * 4 ^ half * 2 ^ 149
    in-units half h =
        let k : 2 ^ e * 2 ^ 149 ≡ 2 ^ i * (2 ^ half * 2 ^ half) =
        sym (pow-add 2 e 149) ∙ ap (λ (x : ℕ). 2 ^ x) h ∙ pow-add 2 i (half + half) ∙ ap (λ (x : ℕ). 2 ^ i * x) (pow-add 2 half half) in
        rw (pow-four half) (regroup m (2 ^ e) (2 ^ i) (2 ^ half) (2 ^ 149) k)

    go : (half : ℕ) → (half ≤ 201) × (e + 149 ≡ i + (half + half)) → SqrtBits m e (half * hid binary32 + r)
    go half h =
        let a = m * 2 ^ i in
        let s = sticky_sqrt (4 * a) 1 in
        let side = sticky-side (4 * a) 1 (zero-lt-suc 0) in
        let lo = side-least a r s w.least w.most near side in
        let hi = side-most a r s w.least w.most near side in
        record {
          below = let k = h.0 in let l = nearest-most a r s w.least w.most near side in omega arith;
          is =
              nearest-bits a r s w.least w.most near side half (le_trans h.0 (lit≤ tt))
              ∙ root-nearest binary32 (m * 2 ^ e) (2 ^ 149) a half s (pow_pos 149) (in-units half h.1) side (le_of_eq (sym (dropped s half lo hi)));
        }
