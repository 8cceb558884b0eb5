-- Over the entries of the sine table Newton's steps are the definition's: `newton-over-table`, since equal angles have the same sine and cosine.
-- `newton-lent` says it of what code gives that was lent the table as a list.
use mathlib.Core.Path.{◌≡◌, refl, ap, ◌∙◌}
use mathlib.Core.Bool.{Bool, true, false, cond}
use mathlib.Core.List.{List}
use Prim.Native.Nat.{ℕ, zero, suc}
use lib.Ieee.{Float, eq}
use Rattle.trig.specs.float32.Operators.{◌⊖◌, ◌⊗◌, ◌⊘◌, two}
use Rattle.trig.specs.sine_table.Table.{sine_table}
use Rattle.trig.specs.sine_table.QuarterSine.{entry}
use Rattle.trig.specs.SinCos.{sin, cos, sin_over, cos_over}
use Rattle.trig.proofs.OverTable.{sin-over-table, cos-over-table}
use Rattle.motion_derivative.specs.declared.MotionDerivative.{MotionDerivative}
use Rattle.motion_derivative.specs.Derivative.{MotionDerivative-value, MotionDerivative-slope_at, MotionDerivative-slope, MotionDerivative-newton}
use Rattle.motion_derivative.proofs.EqualAngles.{sin-equal, cos-equal}
use Rattle.newton_method.specs.means.NewtonOver.{value_over, slope_over, newton_over}

module _ (f : MotionDerivative) where
  value-over-table : (t : Float) → value_over (entry sine_table) f t ≡ MotionDerivative-value f t
  unfolding value_over MotionDerivative-value
  value-over-table t = rw (sin-over-table (two ⊗ f.theta ⊗ t), cos-over-table (two ⊗ f.theta ⊗ t))

  slope-over-table : (t : Float) → slope_over (entry sine_table) f t ≡ MotionDerivative-slope f t
  unfolding slope_over MotionDerivative-slope
  slope-over-table t = go (two ⊗ f.theta ⊗ t) (two ⊗ t ⊗ f.theta) (eq (two ⊗ f.theta ⊗ t) (two ⊗ t ⊗ f.theta)) refl
    where
      go : (x y : Float) (b : Bool) → eq x y ≡ b
          → MotionDerivative-slope_at f t (sin_over (entry sine_table) (cond b x y)) (cos_over (entry sine_table) (cond b x y))
          ≡ MotionDerivative-slope_at f t (sin y) (cos y)
      go x y true h = rw (sin-over-table x, cos-over-table x, sin-equal x y h, cos-equal x y h)
      go x y false h = rw (sin-over-table y, cos-over-table y)

  pub newton-over-table : (n : ℕ) (t : Float) → newton_over (entry sine_table) f n t ≡ MotionDerivative-newton f n t
  unfolding newton_over MotionDerivative-newton
  newton-over-table zero t = refl
  newton-over-table (suc n) t =
      rw (value-over-table t, slope-over-table t, newton-over-table n (t ⊖ MotionDerivative-value f t ⊘ MotionDerivative-slope f t))

  pub newton-lent : {l : List ℕ} → l ≡ sine_table → (n : ℕ) (t : Float) {z : Float} → z ≡ newton_over (entry l) f n t → z ≡ MotionDerivative-newton f n t
  newton-lent e n t h = h ∙ ap (λ (l : List ℕ). newton_over (entry l) f n t) e ∙ newton-over-table n t
