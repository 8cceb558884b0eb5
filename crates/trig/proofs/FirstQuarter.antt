-- An angle in the first quarter, told by its bits: its u is one shift of its significand (`first-units`), below a quarter turn (`first_below`), and it has no
-- sign. There the sine in units is H(u) and the cosine H(Q - u), over any entries (`sin-first`, `cos-first`); `sin-first-value` and `cos-first-value` are
-- the definitions from what the code's calls give.
use mathlib.Core.Path.{◌≡◌, refl, sym, ap, ap₂, ◌∙◌}
use mathlib.Core.Bool.{Bool, true, false, true≢false, ◌&&◌}
use Prim.Native.Nat.{ℕ, zero, suc, ◌+◌, ◌-◌, ◌*◌, ◌/◌, ◌%◌, ◌^◌, ◌≤◌, ◌<◌, min}
use native.Mathlib.Nat.{div-lt_iff_lt-mul, mul-le-mul_left}
use native.Mathlib.Omega.{arith}
use borrow.Author.Tests.{lt-leb, leb-true, ltb-true}
use lib.Dec.{leb, ltb}
use lib.IntN.{pos}
use lib.Pow.{pow-add, pow_pos, pow_mono}
use lib.Ieee.{Float, nan, inf, fin, binary32, is_nan, lt, ne, fits, to_bits}
use lib.Ieee.Nearest.{div_same}
use Rattle.float32.proofs.rounding.Order.{differs-nan}
use Rattle.float32.specs.Abs.{abs}
use Rattle.float_bits.specs.declared.Decoded.{Decoded}
use Rattle.float_bits.specs.Decode.{integer_decode}
use Rattle.float_bits.proofs.Fields.{sign, field, decode-normal}
use Rattle.sine_table.specs.Table.{quarter_turn}
use Rattle.sine_table.specs.QuarterSine.{quarter_sine_over}
use Rattle.trig.specs.Units.{angle_units, sin_quarter, sin_units_over, cos_units_over, nearest_float, with_sign}
use Rattle.trig.specs.SinCos.{near, sin_over, cos_over}
use Rattle.trig.proofs.Fixed.{shl_exact, angle-near}
use Rattle.trig.proofs.Shift.{shift-right}
use Rattle.trig.proofs.Values.{sin-value, cos-value}

-- ---- the rule of the first quarter

pub sin-first : (T : ℕ → ℕ) (u : ℕ) → u < quarter_turn → sin_units_over T u ≡ pos (quarter_sine_over T u)
unfolding sin_units_over sin_quarter
sin-first T u h = ap₂ (sin_quarter (quarter_sine_over T)) (let e : u / quarter_turn % 4 ≡ 0 = omega arith in e) (let e : u % quarter_turn ≡ u = omega arith in e)

pub cos-first : (T : ℕ → ℕ) (u : ℕ) → u < quarter_turn → cos_units_over T u ≡ pos (quarter_sine_over T (quarter_turn - u))
unfolding cos_units_over sin_units_over sin_quarter
cos-first T u h =
    ap₂ (sin_quarter (quarter_sine_over T)) (let e : (u + quarter_turn) / quarter_turn % 4 ≡ 1 = omega arith in e)
    (let e : (u + quarter_turn) % quarter_turn ≡ u = omega arith in e)

-- ---- the bits

-- The code's test.
pub first_range : (b : ℕ) → (leb 0x31800000 b && ltb b 0x3fc90fdb) ≡ true → (0x31800000 ≤ b) × (b < 0x3fc90fdb)
first_range b h = let t = both (leb 0x31800000 b) (ltb b 0x3fc90fdb) h in (leb-true 0x31800000 b t.0, ltb-true b 0x3fc90fdb t.1)
  where
    both : (p q : Bool) → (p && q) ≡ true → (p ≡ true) × (q ≡ true)
    both true q h = (refl, h)
    both false q h = absurd (true≢false (sym h))

-- A near angle is a number.
pub near-number : (a : Float) → near a ≡ true → ne a a ≡ false
near-number a h = differs-nan a ∙ go a h
  where
    go : (a : Float) → near a ≡ true → is_nan a ≡ false
    go nan h = absurd (unfold lt abs in true≢false (sym h))
    go (inf s) h = unfold is_nan in refl
    go (fin s m e) h = unfold is_nan in refl

abbrev digits : ℕ → ℕ
digits b = 0x800000 + b % 0x800000

-- What the code shifts.
abbrev pub first_units : ℕ → ℕ
first_units b = digits b * 32 / 2 ^ (127 - b / 0x800000)

module _ (b : ℕ) (lo : 0x31800000 ≤ b) (hi : b < 0x3fc90fdb) where
  pub first_below : first_units b < quarter_turn
  first_below = go (127 - b / 0x800000) refl
    where
      half : (n P : ℕ) → n < 2 * quarter_turn → 2 ≤ P → n < quarter_turn * P
      half n P h l = let m : quarter_turn * 2 ≤ quarter_turn * P = mul-le-mul_left quarter_turn l in omega (arith, m)

      go : (k : ℕ) → 127 - b / 0x800000 ≡ k → digits b * 32 / 2 ^ k < quarter_turn
      go zero e = omega arith
      go (suc k) e =
          (div-lt_iff_lt-mul (pow_pos (suc k))).1 (half (digits b * 32) (2 ^ suc k) (omega arith) (pow_mono {i = 1} {j = suc k} (omega arith)))

  shift : first_units b ≡ digits b * 2 ^ 28 % 2 ^ 64 * 2 ^ (b / 0x800000 - 1) / 2 ^ 149
  shift =
      let f = b / 0x800000 in
      let D = digits b in
      div_same (D * 32) (2 ^ (127 - f)) (D * 2 ^ 28) (2 ^ (149 - (f - 1))) (pow_pos (127 - f)) (pow_pos (149 - (f - 1)))
      (regroup D (2 ^ (127 - f)) (2 ^ (149 - (f - 1)))
      (ap (λ (n : ℕ). 2 ^ n) (let e : 149 - (f - 1) ≡ 23 + (127 - f) = omega arith in e) ∙ pow-add 2 23 (127 - f)))
      ∙ shift-right (D * 2 ^ 28) (f - 1) (omega arith)
      ∙ ap (λ (n : ℕ). n * 2 ^ (f - 1) / 2 ^ 149) (sym (shl_exact D 28 (omega arith) (omega arith)))
    where
      regroup : (D P R : ℕ) → R ≡ 2 ^ 23 * P → D * 32 * R ≡ D * 2 ^ 28 * P
      regroup D P R e = let m : D * R ≡ D * (2 ^ 23 * P) = ap (λ (n : ℕ). D * n) e in omega (arith, m)

-- ---- the angle

module _ (a : Float) (f : fits binary32 a ≡ true) (h : near a ≡ true) (lo : 0x31800000 ≤ to_bits binary32 a) (hi : to_bits binary32 a < 0x3fc90fdb) where
  abbrev b : ℕ
  b = to_bits binary32 a

  abbrev d : Decoded
  d = record { negative = sign b; significand = digits b; exponent = field b - 1 }

  decode : d ≡ integer_decode a
  decode = decode-normal a f (near-number a h) (λ (e : field b ≡ 255). omega (arith, e)) (λ (e : field b ≡ 0). omega (arith, e))

  unsigned : sign b ≡ false
  unsigned = lt-leb 2147483648 b (omega arith)

  pub first-units : first_units b ≡ min (angle_units a) (2 ^ 52)
  first-units =
      angle-near a f d decode (omega arith) (first_units b)
      (shift b lo hi ∙ ap (λ (n : ℕ). digits b * 2 ^ 28 % 2 ^ 64 * 2 ^ (n - 1) / 2 ^ 149) (let e : b / 0x800000 ≡ field b = omega arith in e))

  module _ (T : ℕ → ℕ) (u : ℕ) (U : u ≡ first_units b) (z : Float) where
    pub sin-first-value : z ≡ nearest_float (sin_units_over T u) → z ≡ sin_over T a
    sin-first-value Z =
        sin-value T a h u z (U ∙ first-units) d decode (Z ∙ ap (λ (s : Bool). nearest_float (with_sign s (sin_units_over T u))) (sym unsigned))

    pub cos-first-value : z ≡ nearest_float (cos_units_over T u) → z ≡ cos_over T a
    cos-first-value Z = cos-value T a h u z (U ∙ first-units) Z
