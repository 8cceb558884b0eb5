-- The last steps of sine and cosine: from what the code's calls give to the definitions (`sin-value`, `cos-value`), and where there is nothing to work out
-- (`sin-far`, `cos-far`).
use mathlib.Core.Path.{◌≡◌, refl, sym, ap, ◌∙◌}
use mathlib.Core.Bool.{Bool, true, false, cond}
use Prim.Native.Nat.{ℕ, ◌^◌, min}
use native.Mathlib.Omega.{arith}
use lib.Ieee.{Float, nan, binary32, lt, div, of_bits}
use Rattle.float32.specs.Abs.{abs}
use Rattle.float_bits.specs.declared.Decoded.{Decoded}
use Rattle.float_bits.specs.Decode.{negative, integer_decode}
use Rattle.trig.specs.Units.{angle_units, sin_units_over, cos_units_over, nearest_float, with_sign}
use Rattle.trig.specs.SinCos.{near, far_sin, far_cos, sin_over, cos_over}
use Rattle.trig.proofs.Fixed.{near-units}

-- The code tests the absolute value that its call gave.
pub near-test : (a x : Float) (b : Bool) → x ≡ abs a → lt x (of_bits binary32 0x4b800000) ≡ b → near a ≡ b
near-test a x b e h = ap (λ (y : Float). lt y (of_bits binary32 0x4b800000)) (sym e) ∙ h

pub taken : {A : Type 0} (b : Bool) (x y : A) → b ≡ true → x ≡ cond b x y
taken b x y e = sym (ap (λ (t : Bool). cond t x y) e)

pub left : {A : Type 0} (b : Bool) (x y : A) → b ≡ false → y ≡ cond b x y
left b x y e = sym (ap (λ (t : Bool). cond t x y) e)

module _ (T : ℕ → ℕ) (a : Float) (h : near a ≡ true) (u : ℕ) (z : Float) (U : u ≡ min (angle_units a) (2 ^ 52)) where
  units : u ≡ angle_units a
  units = let l = near-units a h in omega (arith, l)

  pub sin-value : (d : Decoded) → d ≡ integer_decode a → z ≡ nearest_float (with_sign d.negative (sin_units_over T u)) → z ≡ sin_over T a
  unfolding sin_over integer_decode
  sin-value d D Z =
      Z ∙ ap (λ (v : ℕ). nearest_float (with_sign d.negative (sin_units_over T v))) units
      ∙ ap (λ (p : Decoded). nearest_float (with_sign p.negative (sin_units_over T (angle_units a)))) D
      ∙ taken (near a) (nearest_float (with_sign (negative a) (sin_units_over T (angle_units a)))) far_sin h

  pub cos-value : z ≡ nearest_float (cos_units_over T u) → z ≡ cos_over T a
  unfolding cos_over
  cos-value Z = Z ∙ ap (λ (v : ℕ). nearest_float (cos_units_over T v)) units ∙ taken (near a) (nearest_float (cos_units_over T (angle_units a))) far_cos h

-- What the code gives where there is no number.
pub none : div binary32 (of_bits binary32 0) (of_bits binary32 0) ≡ nan
unfolding div of_bits
none = refl

pub sin-far : (T : ℕ → ℕ) (a : Float) → near a ≡ false → div binary32 (of_bits binary32 0) (of_bits binary32 0) ≡ sin_over T a
unfolding sin_over
sin-far T a h = none ∙ left (near a) (nearest_float (with_sign (negative a) (sin_units_over T (angle_units a)))) far_sin h

pub cos-far : (T : ℕ → ℕ) (a : Float) → near a ≡ false → div binary32 (of_bits binary32 0) (of_bits binary32 0) ≡ cos_over T a
unfolding cos_over
cos-far T a h = none ∙ left (near a) (nearest_float (cos_units_over T (angle_units a))) far_cos h
