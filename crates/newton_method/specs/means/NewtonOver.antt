-- Newton's steps over any entries in place of the table's, `newton_over`: what code gives that is lent a table. Over those of `sine_table` they are
-- `MotionDerivative-newton` (`newton-over-table`).
use Rattle.std.specs.Prelude.{ℕ, zero, suc, ◌≡◌, cond, ◌||◌, Float}
use Rattle.std.specs.Float.Ieee.{eq}
use Rattle.trig.specs.float32.Operators.{◌⊖◌, ◌⊗◌, ◌⊘◌, positive_zero, two}
use Rattle.trig.specs.declared.SinCos.{SinCos}
use Rattle.trig.specs.SinCos.{sin_over, cos_over}
use Rattle.motion_derivative.specs.declared.MotionDerivative.{MotionDerivative}
use Rattle.motion_derivative.specs.Derivative.{MotionDerivative-value_at, MotionDerivative-slope_at}

-- s is the sine and the cosine of a over the entries T.
abbrev pub SinCosOver : (ℕ → ℕ) → SinCos → Float → Type 0
SinCosOver T s a = (s.sin ≡ sin_over T a) × (s.cos ≡ cos_over T a)

-- Where the sine of x is known, that of y is taken at x if they compare equal.
abbrev pub asked_angle : Float → Float → Float
asked_angle x y = cond (eq x y) x y

unfoldable pub value_over : (ℕ → ℕ) → MotionDerivative → Float → Float
value_over T f t = let a = two ⊗ f.theta ⊗ t in MotionDerivative-value_at f t (sin_over T a) (cos_over T a)

unfoldable pub slope_over : (ℕ → ℕ) → MotionDerivative → Float → Float
slope_over T f t = let a = asked_angle (two ⊗ f.theta ⊗ t) (two ⊗ t ⊗ f.theta) in MotionDerivative-slope_at f t (sin_over T a) (cos_over T a)

-- At most n steps from t.
unfoldable pub newton_over : (ℕ → ℕ) → MotionDerivative → ℕ → Float → Float
newton_over T f zero t = t
newton_over T f (suc n) t =
    let value = value_over T f t in
    let slope = slope_over T f t in
    cond (eq value positive_zero || eq slope positive_zero) t (newton_over T f n (t ⊖ value ⊘ slope))
