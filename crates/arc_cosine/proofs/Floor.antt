-- c * 2 ^ 30 rounded down, for a c in -1 to 1, by the parts that `integer_decode` gives: one shift (`floor-positive`, `floor-negative`).
use mathlib.Core.Path.{◌≡◌, refl, sym, ap, subst, ◌∙◌}
use mathlib.Core.Logic.{inl, inr}
use mathlib.Core.Bool.{Bool, true, false, true≢false, ◌&&◌}
use Prim.Native.Nat.{ℕ, zero, suc, ◌+◌, ◌-◌, ◌*◌, ◌/◌, ◌%◌, ◌^◌, ◌≤◌, ◌<◌}
use native.Mathlib.Nat.{eq-zero-or-pos, le_trans, le_of_eq, lt_of_le_of_lt, lt_of_mul-lt-mul_right}
use native.Mathlib.Nat.{mul-le-mul_right, mul-lt-mul_of_pos_right, mul-pos, div-lt_iff_lt-mul}
use native.Mathlib.Nat.{div-mul-le_self, lt-div-mul-add, le_of_mul-le-mul_right, lt_of_lt_of_le, div-eq_of_lt-le}
use native.Mathlib.Omega.{arith}
use borrow.Author.Tests.{ltb-true, ltb-false}
use lib.IntN.{pos, negsuc, neg_ℤ}
use lib.Dec.{T, ltb, lit<, lit≤}
use lib.Pow.{pow-add, pow_pos, pow-lt}
use lib.Signed.{shr_z}
use lib.Ieee.{Float, nan, inf, fin, binary32, up, down, le, neg, minus, of_bits, fits}
use lib.Ieee.Fits.{down_pos, and_l, and_r}
use lib.Ieee.Exact.{HasValue}
use lib.Ieee.Scale.{finite}
use Rattle.float_bits.specs.rounding.Order.{◌≼◌}
use Rattle.float_bits.proofs.rounding.Encoding.{pow_lt_cancel}
use Rattle.float_bits.proofs.rounding.Order.{to-fraction, between-finite}
use Rattle.trig.specs.float32.Operators.{one}
use Rattle.trig.proofs.float32.Constants.{one-finite}
use Rattle.float_bits.specs.declared.Decoded.{Decoded}
use Rattle.float_bits.specs.Decode.{integer_decode}
use Rattle.float_bits.proofs.Decode.{decode-value, significand-lt, significand-normal}
use Rattle.trig.specs.Units.{fixed}
use Rattle.trig.proofs.Units.{minus-above, minus-below}
use Rattle.trig.proofs.Fixed.{fixed-value, shl_exact}
use Rattle.arc_cosine.specs.Acos.{in_domain, floor_units}

exponent-below : (x : Float) → (integer_decode x).significand * 2 ^ (integer_decode x).exponent < 2 ^ 173 → (integer_decode x).exponent ≤ 149
exponent-below x h = elim (significand-normal x) [
  | inl e ↦ (rw e (omega arith))
  | inr l ↦ below (integer_decode x).exponent (pow_lt_cancel (23 + (integer_decode x).exponent) 173
      (lt_of_le_of_lt (le_trans (le_of_eq (pow-add 2 23 (integer_decode x).exponent)) (mul-le-mul_right (2 ^ (integer_decode x).exponent) l)) h))
]
  where
    below : (j : ℕ) → 23 + j < 173 → j ≤ 149
    below j h = omega arith

-- ---- rounding down below zero

-- With x / d = n E / (E F): the whole numbers below it are those below n / F.
below-same : (x d n E F : ℕ) → 0 < x → 0 < d → 0 < E → 0 < F → x * (E * F) ≡ n * E * d → (n - 1) * E / (E * F) ≡ (x - 1) / d
below-same x d n E F X D EP FP h =
    let q = (x - 1) / d in
    let lo : q * d ≤ x - 1 = div-mul-le_self (x - 1) d in
    let hi : x - 1 < q * d + d = lt-div-mul-add {a = x - 1} {b = d} D in
    let a : q * F < n = lt_of_mul-lt-mul_right (d * E) (under q lo) in
    let b : n * E ≤ (q + 1) * (E * F) = le_of_mul-le-mul_right (over q hi) D in
    let c : q * F * E ≤ (n - 1) * E = mul-le-mul_right E (let z : q * F ≤ n - 1 = omega arith in z) in
    div-eq_of_lt-le (E * F) (le_trans (le_of_eq (regroup q)) c) (lt_of_lt_of_le (shorter q a) b)
  where
    under : (q : ℕ) → q * d ≤ x - 1 → q * F * (d * E) < n * (d * E)
    under q lo = let l : q * d < x = omega arith in let k = mul-lt-mul_of_pos_right l (mul-pos EP FP) in omega (arith, k, h)

    over : (q : ℕ) → x - 1 < q * d + d → n * E * d ≤ (q + 1) * (E * F) * d
    over q hi = let l : x ≤ q * d + d = omega arith in let k = mul-le-mul_right (E * F) l in omega (arith, k, h)

    regroup : (q : ℕ) → q * (E * F) ≡ q * F * E
    regroup q = omega arith

    shorter : (q : ℕ) → q * F < n → (n - 1) * E < n * E
    shorter q l = mul-lt-mul_of_pos_right (let z : n - 1 < n = omega arith in z) EP

-- ---- c in -1 to 1

minus-one-finite : T (finite (neg one))
unfolding neg of_bits
minus-one-finite = tt

pub unit-finite : (c : Float) → in_domain c ≡ true → T (finite c)
unit-finite c h =
    let t : T (in_domain c) = subst T (sym h) tt in
    between-finite minus-one-finite one-finite (record { holds = and_l (le (neg one) c) (le c one) t }) (record { holds = and_r (le (neg one) c) (le c one) t })

unit_size : (c : Float) (s : Bool) (v : ℕ) → HasValue c s v (2 ^ 149) → in_domain c ≡ true → v ≤ 2 ^ 149
unfolding neg of_bits
unit_size nan s v h k = absurd h
unit_size (inf t) s v h k = absurd h
unit_size (fin t m e) s v h k =
    let b : T (le (fin true 1 (pos 0)) (fin t m e) && le (fin t m e) (fin false 1 (pos 0))) = subst T (sym k) tt in
    le_of_mul-le-mul_right (clear (m * up e) (down e) v (2 ^ 149) h.1
    (size t (record { holds = and_l (le (fin true 1 (pos 0)) (fin t m e)) (le (fin t m e) (fin false 1 (pos 0))) b })
    (record { holds = and_r (le (fin true 1 (pos 0)) (fin t m e)) (le (fin t m e) (fin false 1 (pos 0))) b }))) (down_pos e)
  where
    size : (t : Bool) → fin true 1 (pos 0) ≼ fin t m e → fin t m e ≼ fin false 1 (pos 0) → m * up e ≤ down e
    size true a b = let l = to-fraction tt tt a in omega (arith, l)
    size false a b = let l = to-fraction tt tt b in omega (arith, l)

    clear : (a d v L : ℕ) → a * L ≡ v * d → a ≤ d → v * d ≤ L * d
    clear a d v L e l = let k = mul-le-mul_right L l in omega (arith, e, k)

-- c * 2 ^ 30 rounded down, by its significand m, of which a shift is taken: of m * 2 ^ 30, and below zero of one less.
floor-none : (x d : ℕ) → x ≡ 0 → pos (x / d) ≡ shr_z (neg_ℤ (pos x)) d
floor-none zero d e = refl
floor-none (suc x) d e = absurd (omega arith)

floor-some : (x d : ℕ) → 0 < x → negsuc ((x - 1) / d) ≡ shr_z (neg_ℤ (pos x)) d
floor-some zero d h = absurd (omega arith)
floor-some (suc x) d h = ap (λ (n : ℕ). negsuc (n / d)) (let e : suc x - 1 ≡ x = omega arith in e)

floor-plus : (c : Float) (s : Bool) (m E : ℕ) → HasValue c s (m * E) (2 ^ 149) → (s && ltb 0 (m * 2 ^ 30)) ≡ false
    → pos (m * 2 ^ 30 * E / 2 ^ 149) ≡ floor_units c
unfolding floor_units fixed
floor-plus nan s m E h k = absurd h
floor-plus (inf t) s m E h k = absurd h
floor-plus (fin false n e) s m E h k = ap pos (fixed-value (fin false n e) s 30 m E h)
floor-plus (fin true n e) s m E h k =
    let l : m * 2 ^ 30 ≤ 0 = ltb-false 0 (m * 2 ^ 30) (subst (λ (b : Bool). (b && ltb 0 (m * 2 ^ 30)) ≡ false) (sym h.0) k) in
    ap pos (fixed-value (fin true n e) s 30 m E h)
    ∙ floor-none (n * up e * 2 ^ 30) (down e) (none (n * up e) (2 ^ 149) (down e) (pow_pos 149) (let z : m ≡ 0 = omega arith in z) h.1)
  where
    none : (a L D : ℕ) → 0 < L → m ≡ 0 → a * L ≡ m * E * D → a * 2 ^ 30 ≡ 0
    none a L D p z h = elim (eq-zero-or-pos a) [
      | inl e ↦ omega (arith, e)
      | inr q ↦ absurd (let k = mul-pos q p in let l : a * L ≡ 0 * E * D = subst (λ (x : ℕ). a * L ≡ x * E * D) z h in omega (arith, k, l))
    ]

floor-minus : (c : Float) (s : Bool) (m j : ℕ) → j ≤ 149 → HasValue c s (m * 2 ^ j) (2 ^ 149) → (s && ltb 0 (m * 2 ^ 30)) ≡ true
    → negsuc ((m * 2 ^ 30 - 1) * 2 ^ j / 2 ^ 149) ≡ floor_units c
unfolding floor_units
floor-minus nan s m j g h k = absurd h
floor-minus (inf t) s m j g h k = absurd h
floor-minus (fin false n e) s m j g h k = absurd (true≢false (sym k ∙ ap (λ (b : Bool). b && ltb 0 (m * 2 ^ 30)) (sym h.0)))
floor-minus (fin true n e) s m j g h k =
    let l : 0 < m * 2 ^ 30 = ltb-true 0 (m * 2 ^ 30) (subst (λ (b : Bool). (b && ltb 0 (m * 2 ^ 30)) ≡ true) (sym h.0) k) in
    let x : 0 < n * up e * 2 ^ 30 = some (n * up e) (2 ^ 149) (down e) (pow_pos j) (down_pos e) (let z : 0 < m = omega arith in z) h.1 in
    let p : 2 ^ 149 ≡ 2 ^ j * 2 ^ (149 - j) = ap (λ (i : ℕ). 2 ^ i) (let z : 149 ≡ j + (149 - j) = omega arith in z) ∙ pow-add 2 j (149 - j) in
    ap negsuc (ap (λ (y : ℕ). (m * 2 ^ 30 - 1) * 2 ^ j / y) p
    ∙ below-same (n * up e * 2 ^ 30) (down e) (m * 2 ^ 30) (2 ^ j) (2 ^ (149 - j)) x (down_pos e) (pow_pos j)
    (pow_pos (149 - j)) (regroup (n * up e) (2 ^ 149) (2 ^ j * 2 ^ (149 - j)) (2 ^ j) (down e) p h.1))
    ∙ floor-some (n * up e * 2 ^ 30) (down e) x
  where
    some : (a L D : ℕ) → 0 < 2 ^ j → 0 < D → 0 < m → a * L ≡ m * 2 ^ j * D → 0 < a * 2 ^ 30
    some a L D p q z h = elim (eq-zero-or-pos a) [
      | inl e ↦ absurd (let k = mul-pos (mul-pos z p) q in let l : 0 * L ≡ m * 2 ^ j * D = subst (λ (x : ℕ). x * L ≡ m * 2 ^ j * D) e h in omega (arith, k, l))
      | inr q ↦ omega (arith, q)
    ]

    regroup : (a L M E D : ℕ) → L ≡ M → a * L ≡ m * E * D → a * 2 ^ 30 * M ≡ m * 2 ^ 30 * E * D
    regroup a L M E D p h = let k : a * M ≡ m * E * D = subst (λ (x : ℕ). a * x ≡ m * E * D) p h in omega (arith, k)

pub positive-part : (s : Bool) (n : ℕ) → (s && ltb 0 n) ≡ true → 0 < n
positive-part true n e = ltb-true 0 n e
positive-part false n e = absurd (true≢false (sym e))

floor-top : (m E L : ℕ) → 0 < L → m * E ≤ L → m * 2 ^ 30 * E / L ≤ 2 ^ 30
floor-top m E L p h =
    let l : m * 2 ^ 30 * E / L < suc (2 ^ 30) = (div-lt_iff_lt-mul p).1 (let z : m * 2 ^ 30 * E < suc (2 ^ 30) * L = omega arith in z) in omega arith

floor-bottom : (m E L : ℕ) → 0 < L → 0 < E → 0 < m * 2 ^ 30 → m * E ≤ L → (m * 2 ^ 30 - 1) * E / L < 2 ^ 30
floor-bottom m E L p q k h =
    (div-lt_iff_lt-mul p).1 (lt_of_lt_of_le (mul-lt-mul_of_pos_right (let z : m * 2 ^ 30 - 1 < m * 2 ^ 30 = omega arith in z) q)
    (let z : m * 2 ^ 30 * E ≤ 2 ^ 30 * L = omega arith in z))

-- What the code makes of a c in -1 to 1: d are its parts.
module _ (c : Float) (f : fits binary32 c ≡ true) (h : in_domain c ≡ true) (d : Decoded) (D : d ≡ integer_decode c) where
  value : HasValue c d.negative (d.significand * 2 ^ d.exponent) (2 ^ 149)
  value = rw D (decode-value c (subst T (sym f) tt) (unit-finite c h))

  bounded : d.significand * 2 ^ d.exponent ≤ 2 ^ 149
  bounded = unit_size c d.negative (d.significand * 2 ^ d.exponent) value h

  pub unit-digits : d.significand * 2 ^ 30 % 2 ^ 64 < 2 ^ 54
  unit-digits = let l : d.significand < 2 ^ 24 = rw D (significand-lt c) in omega (arith, l)

  pub unit-exponent : d.exponent ≤ 149
  unit-exponent = rw D
      (exponent-below c (lt_of_le_of_lt (subst (λ (p : Decoded). p.significand * 2 ^ p.exponent ≤ 2 ^ 149) D bounded) (pow-lt {i = 149} {j = 173} (lit< tt))))

  exact : d.significand * 2 ^ 30 % 2 ^ 64 ≡ d.significand * 2 ^ 30
  exact = shl_exact d.significand 30 (rw D (significand-lt c)) (lit≤ tt)

  module _ (q : ℕ) where
    pub floor-positive : (d.negative && ltb 0 (d.significand * 2 ^ 30 % 2 ^ 64)) ≡ false → q ≡ d.significand * 2 ^ 30 % 2 ^ 64 * 2 ^ d.exponent / 2 ^ 149
        → (q ≤ 2 ^ 30) × (minus (2 ^ 30 + q) (2 ^ 30) ≡ floor_units c)
    floor-positive k e =
        let k' = rw exact at k in
        let e' : q ≡ d.significand * 2 ^ 30 * 2 ^ d.exponent / 2 ^ 149 = e ∙ ap (λ (y : ℕ). y * 2 ^ d.exponent / 2 ^ 149) exact in (
          rw e' (floor-top d.significand (2 ^ d.exponent) (2 ^ 149) (pow_pos 149) bounded),
          minus-above (2 ^ 30 + q) (2 ^ 30) (omega arith) ∙ ap pos (let z : 2 ^ 30 + q - 2 ^ 30 ≡ q = omega arith in z ∙ e')
              ∙ floor-plus c d.negative d.significand (2 ^ d.exponent) value k',
        )

    pub floor-negative : (d.negative && ltb 0 (d.significand * 2 ^ 30 % 2 ^ 64)) ≡ true
        → q ≡ (d.significand * 2 ^ 30 % 2 ^ 64 - 1) * 2 ^ d.exponent / 2 ^ 149
        → (q < 2 ^ 30) × (minus (2 ^ 30 - 1 - q) (2 ^ 30) ≡ floor_units c)
    floor-negative k e =
        let k' = rw exact at k in
        let e' : q ≡ (d.significand * 2 ^ 30 - 1) * 2 ^ d.exponent / 2 ^ 149 = e ∙ ap (λ (y : ℕ). (y - 1) * 2 ^ d.exponent / 2 ^ 149) exact in
        let l : q < 2 ^ 30 = rw e' (floor-bottom d.significand (2 ^ d.exponent) (2 ^ 149) (pow_pos 149)
        (pow_pos d.exponent) (positive-part d.negative (d.significand * 2 ^ 30) k') bounded) in (
          l,
          minus-below (2 ^ 30 - 1 - q) (2 ^ 30) (omega arith) ∙ ap negsuc (let z : 2 ^ 30 - suc (2 ^ 30 - 1 - q) ≡ q = omega arith in z ∙ e')
              ∙ floor-minus c d.negative d.significand d.exponent unit-exponent value k',
        )
