-- Floats that compare equal have the same sine and the same cosine, zeros of either sign among them: `sin-equal`, `cos-equal`.
-- Equal floats are the same fraction, so that they have the same units and are both near or both far; a zero's sine has no sign to change.
use mathlib.Core.Path.{◌≡◌, refl, sym, ap, ◌∙◌}
use mathlib.Core.Bool.{Bool, true, false, ◌&&◌, ◌||◌, beq, true≢false}
use mathlib.Core.Logic.{◌⊎◌, inl, inr}
use Prim.Native.Nat.{ℕ, ◌*◌, ◌/◌, ◌^◌, ◌≤◌, ◌<◌}
use native.Mathlib.Nat.{le_antisymm, mul-lt-mul_of_pos_right, mul-le-mul_right, lt_of_mul-lt-mul_right}
use native.Mathlib.Nat.{le_of_mul-le-mul_right, eq-zero-or-pos, mul-pos, zero-div}
use native.Mathlib.Omega.{arith}
use borrow.Author.Tests.{ltb-true, ltb-false, lt-ltb, le-ltb, eqb-true}
use lib.Dec.{ltb, eqb}
use lib.Ieee.{Float, nan, inf, fin, up, down, lt, eq, level, of_bits}
use lib.Ieee.Fits.{down_pos}
use lib.Ieee.Nearest.{div_mono}
use Rattle.trig.specs.float32.Abs.{abs}
use Rattle.trig.specs.float_bits.Decode.{negative}
use Rattle.trig.specs.Units.{fixed, sin_units, with_sign}
use Rattle.trig.specs.SinCos.{near, sin, cos}
use Rattle.trig.specs.means.Computing.{computing}

-- ---- the same fraction a / c and b / g
module _ (a c b g : ℕ) (C : 0 < c) (G : 0 < g) (q : a * g ≡ b * c) where
  units_equal : a * 2 ^ 28 / c ≡ b * 2 ^ 28 / g
  units_equal = le_antisymm (div_mono (a * 2 ^ 28) c (b * 2 ^ 28) g C G (omega (arith, q))) (div_mono (b * 2 ^ 28) g (a * 2 ^ 28) c G C (omega (arith, q)))

  near-equal : ltb (a * 1) (1 * 2 ^ 24 * c) ≡ ltb (b * 1) (1 * 2 ^ 24 * g)
  near-equal = go (ltb (a * 1) (1 * 2 ^ 24 * c)) refl
    where
      below : a < 2 ^ 24 * c → b < 2 ^ 24 * g
      below l = lt_of_mul-lt-mul_right c (let h : a * g < 2 ^ 24 * c * g = mul-lt-mul_of_pos_right l G in omega (arith, q, h))

      above : 2 ^ 24 * c ≤ a → 2 ^ 24 * g ≤ b
      above l = le_of_mul-le-mul_right (let h : 2 ^ 24 * c * g ≤ a * g = mul-le-mul_right g l in omega (arith, q, h)) C

      go : (t : Bool) → ltb (a * 1) (1 * 2 ^ 24 * c) ≡ t → t ≡ ltb (b * 1) (1 * 2 ^ 24 * g)
      go true e = let l = below (omega (arith, ltb-true (a * 1) (1 * 2 ^ 24 * c) e)) in sym (lt-ltb (b * 1) (1 * 2 ^ 24 * g) (omega (arith, l)))
      go false e = let l = above (omega (arith, ltb-false (a * 1) (1 * 2 ^ 24 * c) e)) in sym (le-ltb (b * 1) (1 * 2 ^ 24 * g) (omega (arith, l)))

-- ---- what the test says
level-value : (s t : Bool) (a b : ℕ) → level s a t b ≡ true → (a ≡ b) × ((s ≡ t) ⊎ (a ≡ 0))
level-value s t a b h = go (eqb a b) refl h
  where
    signs : (s t z : Bool) → eqb a 0 ≡ z → (beq s t || z) ≡ true → (s ≡ t) ⊎ (a ≡ 0)
    signs true true z e h = inl refl
    signs false false z e h = inl refl
    signs true false true e h = inr (eqb-true a 0 e)
    signs true false false e h = absurd (true≢false (sym h))
    signs false true true e h = inr (eqb-true a 0 e)
    signs false true false e h = absurd (true≢false (sym h))

    go : (p : Bool) → eqb a b ≡ p → (p && (beq s t || eqb a 0)) ≡ true → (a ≡ b) × ((s ≡ t) ⊎ (a ≡ 0))
    go true e h = (eqb-true a b e, signs s t (eqb a 0) refl h)
    go false e h = absurd (true≢false (sym h))

-- ---- the sign
zero-signed : (s : Bool) → with_sign s (sin_units 0) ≡ sin_units 0
unfolding computing
zero-signed true = refl
zero-signed false = refl

signed_equal : (s t : Bool) (a c g u : ℕ) → 0 < g → u ≡ a * 2 ^ 28 / c → (s ≡ t) ⊎ (a * g ≡ 0) → with_sign s (sin_units u) ≡ with_sign t (sin_units u)
signed_equal s t a c g u G e (inl h) = rw h
signed_equal s t a c g u G e (inr h) = rw (zero (eq-zero-or-pos a), zero-signed s, zero-signed t)
  where
    zero : (a ≡ 0) ⊎ (0 < a) → u ≡ 0
    zero (inl z) = e ∙ ap (λ (x : ℕ). x * 2 ^ 28 / c) z ∙ zero-div c
    zero (inr l) = let p = mul-pos l G in omega (arith, h, p)

-- ---- sine and cosine
pub sin-equal : (x y : Float) → eq x y ≡ true → sin x ≡ sin y
unfolding eq sin lt abs of_bits fixed negative
sin-equal nan y h = absurd (true≢false (sym h))
sin-equal (inf s) nan h = absurd (true≢false (sym h))
sin-equal (inf s) (inf t) h = refl
sin-equal (inf s) (fin t n d) h = absurd (true≢false (sym h))
sin-equal (fin s m e) nan h = absurd (true≢false (sym h))
sin-equal (fin s m e) (inf t) h = absurd (true≢false (sym h))
sin-equal (fin s m e) (fin t n d) h =
    let v = level-value s t (m * up e * down d) (n * up d * down e) h in
    let u = units_equal (m * up e) (down e) (n * up d) (down d) (down_pos e) (down_pos d) v.0 in
    rw (
      near-equal (m * up e) (down e) (n * up d) (down d) (down_pos e) (down_pos d) v.0,
      u,
      signed_equal s t (m * up e) (down e) (down d) (n * up d * 2 ^ 28 / down d) (down_pos d) (sym u) v.1,
    )

pub cos-equal : (x y : Float) → eq x y ≡ true → cos x ≡ cos y
unfolding eq cos lt abs of_bits fixed
cos-equal nan y h = absurd (true≢false (sym h))
cos-equal (inf s) nan h = absurd (true≢false (sym h))
cos-equal (inf s) (inf t) h = refl
cos-equal (inf s) (fin t n d) h = absurd (true≢false (sym h))
cos-equal (fin s m e) nan h = absurd (true≢false (sym h))
cos-equal (fin s m e) (inf t) h = absurd (true≢false (sym h))
cos-equal (fin s m e) (fin t n d) h =
    let q = (level-value s t (m * up e * down d) (n * up d * down e) h).0 in
    rw (
      near-equal (m * up e) (down e) (n * up d) (down d) (down_pos e) (down_pos d) q,
      units_equal (m * up e) (down e) (n * up d) (down d) (down_pos e) (down_pos d) q,
    )
