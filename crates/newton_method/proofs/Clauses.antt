-- The clauses of Newton's steps, as laws over any number of steps: `newton-none`, `newton-stops`, `newton-steps`.
use mathlib.Core.Path.{◌≡◌, refl, sym}
use mathlib.Core.Bool.{true, false, ◌||◌}
use Prim.Native.Nat.{ℕ, zero, suc, ◌-◌}
use native.Mathlib.Numerals.{sub-one}
use lib.Ieee.{Float, eq}
use Rattle.trig.specs.float32.Operators.{◌⊖◌, ◌⊘◌, positive_zero}
use Rattle.motion_derivative.specs.declared.MotionDerivative.{MotionDerivative}
use Rattle.newton_method.specs.means.NewtonOver.{value_over, slope_over, newton_over}

module _ (T : ℕ → ℕ) (f : MotionDerivative) where
  pub newton-none : (t : Float) → newton_over T f 0 t ≡ t
  unfolding newton_over
  newton-none t = refl

  pub newton-stops : (n : ℕ) (t v s : Float) → v ≡ value_over T f t → s ≡ slope_over T f t
      → (eq v positive_zero || eq s positive_zero) ≡ true
      → newton_over T f n t ≡ t
  unfolding newton_over
  newton-stops zero t v s value slope h = refl
  newton-stops (suc n) t v s value slope h = rw (sym value, sym slope, h)

  pub newton-steps : (n : ℕ) (t v s : Float) → (n ≡ 0 → ⊥) → v ≡ value_over T f t → s ≡ slope_over T f t
      → (eq v positive_zero || eq s positive_zero) ≡ false
      → newton_over T f n t ≡ newton_over T f (n - 1) (t ⊖ v ⊘ s)
  unfolding newton_over
  newton-steps zero t v s nonzero value slope h = absurd (nonzero refl)
  newton-steps (suc n) t v s nonzero value slope h = rw (sym value, sym slope, h, sub-one)
