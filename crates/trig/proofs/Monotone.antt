-- What the layers above know of sine and cosine as floats: u is monotone from zero on (`angle_units-mono`),
-- the float nearest to units is monotone (`nearest-mono`), at an angle, 0 to a full turn, sine and cosine are
-- the floats nearest to the rule's units (`sin-at`, `cos-at`), and at every angle that is not far they lie in
-- -1 to 1 (`sin-unit`, `cos-unit`).
-- Rests on round_mono, and on the units' own rise and fall in trig.
use mathlib.Core.Path.{◌≡◌, refl, sym, ap, subst, ◌∙◌}
use mathlib.Core.Bool.{Bool, true, false, cond, true≢false}
use Prim.Native.Nat.{ℕ, zero, suc, ◌+◌, ◌-◌, ◌*◌, ◌/◌, ◌%◌, ◌^◌, ◌≤◌, ◌<◌}
use native.Mathlib.Nat.{le_trans, lt_of_le_of_lt, div-lt_iff_lt-mul, zero-div}
use native.Mathlib.Omega.{arith}
use borrow.Author.Tests.{lt-ltb}
use lib.IntN.{ℤ, pos, negsuc, neg_ℤ, neg_ℤ-neg_ℤ}
use lib.Dec.{T, leb→le, lit<, lit≤}
use lib.Pow.{pow_pos}
use lib.Signed.{le_z}
use lib.Ieee.{Float, nan, inf, fin, binary32, up, down, lt, neg, minus, round, of_bits}
use lib.Ieee.Fits.{down_pos}
use lib.Ieee.Nearest.{div_mono}
use lib.Ieee.Positive.{den, den_pos}
use lib.Ieee.Scale.{finite}
use Rattle.float32.specs.rounding.Order.{◌≼◌}
use Rattle.float32.proofs.rounding.Rational.{num_pos, num_neg, FractionLe}
use Rattle.float32.proofs.rounding.Order.{≼_trans, between-finite, to-fraction, num_neg-none}
use Rattle.float32.proofs.rounding.Monotone.{round_mono}
use Rattle.float32.proofs.rounding.Corners.{Bounds}
use Rattle.float32.specs.Abs.{abs}
use Rattle.float32.specs.Operators.{one}
use Rattle.float32.proofs.Constants.{zero-finite}
use Rattle.float_bits.specs.Decode.{negative}
use Rattle.sine_table.specs.Table.{quarter_turn}
use Rattle.sine_table.specs.QuarterSine.{quarter_sine}
use Rattle.sine_table.proofs.QuarterSine.{quarter_sine-le-one}
use Rattle.trig.specs.Units.{fixed, angle_units, sin_quarter, sin_units_over, sin_units, cos_units, nearest_float, with_sign}
use Rattle.trig.specs.SinCos.{near, far_sin, far_cos, sin, cos}
use Rattle.trig.specs.Biased.{biased, biased_sin}
use Rattle.trig.specs.means.Computing.{computing}
use Rattle.trig.proofs.Units.{minus-le, biased-negative, unbiased-positive, unbiased-negative, sin-unbiased, cos-unbiased}
use Rattle.trig.specs.Range.{Angle, full_turn_float}

-- ---- the float nearest to units

pub nearest-mono : (y z : ℤ) → le_z y z ≡ true → nearest_float y ≼ nearest_float z
unfolding nearest_float
nearest-mono (pos a) (pos b) h =
    round_mono binary32 false false a b (2 ^ 30) (2 ^ 30) (pow_pos 30) (pow_pos 30) (let l = leb→le a b (subst T (sym h) tt) in omega (arith, l))
nearest-mono (pos a) (negsuc b) h = absurd (true≢false (sym h))
nearest-mono (negsuc a) (pos b) h = round_mono binary32 true false (suc a) b (2 ^ 30) (2 ^ 30) (pow_pos 30) (pow_pos 30) (omega arith)
nearest-mono (negsuc a) (negsuc b) h =
    round_mono binary32 true true (suc a) (suc b) (2 ^ 30) (2 ^ 30) (pow_pos 30) (pow_pos 30) (let l = leb→le b a (subst T (sym h) tt) in omega (arith, l))

-- The same of biased units, 0 for -1 and 2 ^ 31 for 1.
abbrev pub biased_float : ℕ → Float
biased_float n = nearest_float (minus n (2 ^ 30))

pub biased-mono : (m n : ℕ) → m ≤ n → biased_float m ≼ biased_float n
biased-mono m n h = nearest-mono (minus m (2 ^ 30)) (minus n (2 ^ 30)) (minus-le m n (2 ^ 30) h)

biased-one : biased_float (2 ^ 31) ≡ one
unfolding nearest_float round of_bits
biased-one = refl

biased-minus-one : biased_float 0 ≡ neg one
unfolding nearest_float round of_bits neg
biased-minus-one = refl

biased-unit : (n : ℕ) → n ≤ 2 ^ 31 → Bounds (neg one) one (biased_float n)
biased-unit n h =
    record {
      below = subst (λ (x : Float). x ≼ biased_float n) biased-minus-one (biased-mono 0 n (omega arith));
      above = subst (λ (x : Float). biased_float n ≼ x) biased-one (biased-mono n (2 ^ 31) h);
    }

-- ---- u of a float from zero on

angle_units-is : (x : Float) → num_neg x ≡ 0 → angle_units x ≡ num_pos x * 2 ^ 28 / den x
unfolding fixed
angle_units-is nan h = refl
angle_units-is (inf s) h = refl
angle_units-is (fin true m e) h = ap (λ (y : ℕ). y * 2 ^ 28 / down e) h
angle_units-is (fin false m e) h = refl

pub angle_units-mono : {x y : Float} → T (finite y) → of_bits binary32 0 ≼ x → x ≼ y → angle_units x ≤ angle_units y
angle_units-mono {x} {y} f z h =
    let g : T (finite x) = between-finite zero-finite f z h in
    let a = num_neg-none x g z in
    let b = num_neg-none y f (≼_trans z h) in
    rw (angle_units-is x a, angle_units-is y b)
    (div_mono (num_pos x * 2 ^ 28) (den x) (num_pos y * 2 ^ 28) (den y) (den_pos x) (den_pos y)
    (clear (num_pos x) (num_neg x) (den x) (num_pos y) (num_neg y) (den y) a b (to-fraction g f h)))
  where
    clear : (p n d q m e : ℕ) → n ≡ 0 → m ≡ 0 → FractionLe p n d q m e → p * 2 ^ 28 * e ≤ q * 2 ^ 28 * d
    clear p n d q m e h k l = let l' = rw (h, k) at l in omega (arith, l')

-- ---- an angle

full-turn-finite : T (finite full_turn_float)
unfolding of_bits
full-turn-finite = tt

full-turn-units : angle_units full_turn_float ≡ 4 * quarter_turn + 48
unfolding of_bits fixed
full-turn-units = refl

pub angle-finite : {x : Float} → Angle x → T (finite x)
angle-finite a = between-finite (let z : T (finite (of_bits binary32 0)) = unfold of_bits in tt in z) full-turn-finite a.from_zero a.to-full-turn

-- A little beyond four quarter turns, and so within five.
pub angle-units-le : {x : Float} → Angle x → angle_units x ≤ 5 * quarter_turn
angle-units-le {x} a =
    le_trans (subst (λ (n : ℕ). angle_units x ≤ n) full-turn-units (angle_units-mono full-turn-finite a.from_zero a.to-full-turn)) (lit≤ tt)

near-of-units : (x : Float) → T (finite x) → angle_units x < 2 ^ 52 → near x ≡ true
unfolding lt abs of_bits fixed
near-of-units nan f h = absurd f
near-of-units (inf s) f h = absurd f
near-of-units (fin s m e) f h = lt-ltb (m * up e * 1) (1 * 2 ^ 24 * down e) (below (m * up e) (down e) ((div-lt_iff_lt-mul (down_pos e)).0 h))
  where
    below : (a d : ℕ) → a * 2 ^ 28 < 2 ^ 52 * d → a * 1 < 1 * 2 ^ 24 * d
    below a d h = omega arith

pub angle-near : {x : Float} → Angle x → near x ≡ true
angle-near {x} a = near-of-units x (angle-finite a) (lt_of_le_of_lt (angle-units-le a) (lit< tt))

-- The sine of 0 has no sign to change.
sin-zero : with_sign true (sin_units 0) ≡ sin_units 0
unfolding computing
sin-zero = refl

unsigned : (x : Float) → num_neg x ≡ 0 → with_sign (negative x) (sin_units (angle_units x)) ≡ sin_units (angle_units x)
unfolding negative fixed
unsigned nan h = refl
unsigned (inf true) h = sin-zero
unsigned (inf false) h = refl
unsigned (fin false m e) h = refl
unsigned (fin true m e) h =
    let z : m * up e * 2 ^ 28 / down e ≡ 0 = ap (λ (y : ℕ). y * 2 ^ 28 / down e) h ∙ zero-div (down e) in
    subst (λ (u : ℕ). with_sign true (sin_units u) ≡ sin_units u) (sym z) sin-zero

pub sin-at : {x : Float} → Angle x → sin x ≡ biased_float (biased_sin (angle_units x))
unfolding sin
sin-at {x} a =
    ap (λ (b : Bool). cond b (nearest_float (with_sign (negative x) (sin_units (angle_units x)))) far_sin) (angle-near a)
    ∙ ap nearest_float (unsigned x (num_neg-none x (angle-finite a) a.from_zero) ∙ sym (sin-unbiased (angle_units x)))

pub cos-at : {x : Float} → Angle x → cos x ≡ biased_float (biased (cos_units (angle_units x)))
unfolding cos
cos-at {x} a = ap (λ (b : Bool). cond b (nearest_float (cos_units (angle_units x))) far_cos) (angle-near a) ∙ ap nearest_float (sym (cos-unbiased (angle_units x)))

-- ---- sine and cosine lie in -1 to 1

positive-unit : (h : ℕ) → h ≤ 2 ^ 30 → Bounds (neg one) one (nearest_float (pos h))
unfolding biased
positive-unit h l = subst (λ (z : ℤ). Bounds (neg one) one (nearest_float z)) (unbiased-positive h) (biased-unit (2 ^ 30 + h) (omega arith))

negative-unit : (h : ℕ) → h ≤ 2 ^ 30 → Bounds (neg one) one (nearest_float (neg_ℤ (pos h)))
negative-unit h l =
    subst (λ (z : ℤ). Bounds (neg one) one (nearest_float z)) (unbiased-negative h l)
    (biased-unit (biased (neg_ℤ (pos h))) (rw (biased-negative h) (omega arith)))

quarter-unit : (s : Bool) (k v : ℕ) → v ≤ quarter_turn → Bounds (neg one) one (nearest_float (with_sign s (sin_quarter quarter_sine k v)))
unfolding sin_quarter
quarter-unit s k v l = go s k (quarter_sine-le-one v l) (quarter_sine-le-one (quarter_turn - v) (omega arith))
  where
    go : (s : Bool) (k : ℕ) → quarter_sine v ≤ 2 ^ 30 → quarter_sine (quarter_turn - v) ≤ 2 ^ 30
        → Bounds (neg one) one (nearest_float (with_sign s (sin_quarter quarter_sine k v)))
    go false zero p q = positive-unit (quarter_sine v) p
    go false (suc zero) p q = positive-unit (quarter_sine (quarter_turn - v)) q
    go false (suc (suc zero)) p q = negative-unit (quarter_sine v) p
    go false (suc (suc (suc k))) p q = negative-unit (quarter_sine (quarter_turn - v)) q
    go true zero p q = negative-unit (quarter_sine v) p
    go true (suc zero) p q = negative-unit (quarter_sine (quarter_turn - v)) q
    go true (suc (suc zero)) p q = rw (neg_ℤ-neg_ℤ (pos (quarter_sine v))) (positive-unit (quarter_sine v) p)
    go true (suc (suc (suc k))) p q = rw (neg_ℤ-neg_ℤ (pos (quarter_sine (quarter_turn - v)))) (positive-unit (quarter_sine (quarter_turn - v)) q)

units-unit : (s : Bool) (u : ℕ) → Bounds (neg one) one (nearest_float (with_sign s (sin_units u)))
unfolding sin_units sin_units_over quarter_sine
units-unit s u = quarter-unit s (u / quarter_turn % 4) (u % quarter_turn) (let l : u % quarter_turn ≤ quarter_turn = omega arith in l)

pub sin-unit : (a : Float) → near a ≡ true → Bounds (neg one) one (sin a)
unfolding sin
sin-unit a h = rw h (units-unit (negative a) (angle_units a))

pub cos-unit : (a : Float) → near a ≡ true → Bounds (neg one) one (cos a)
unfolding cos cos_units
cos-unit a h = rw h (units-unit false (angle_units a + quarter_turn))

-- ---- a far angle has neither

pub sin-far : (a : Float) → near a ≡ false → sin a ≡ nan
unfolding sin
sin-far a h = rw h

pub cos-far : (a : Float) → near a ≡ false → cos a ≡ nan
unfolding cos
cos-far a h = rw h
