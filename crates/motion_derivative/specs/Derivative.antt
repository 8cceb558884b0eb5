-- The function whose zeros pbrt's motion box needs, c1 + (c2 + c3 t) cos(2 theta t) + (c4 + c5 t) sin(2 theta t): its bounds over an interval,
-- its value, its slope and Newton's steps, each from the lines of 000's `interval_find_zeros`, in their order of operations. Definitions only.
-- A zero is of either sign.
use Rattle.std.specs.Prelude.{ℕ, zero, suc, Bool, cond, ◌||◌, Float}
use Rattle.std.specs.Float.Ieee.{lt, eq}
use Rattle.trig.specs.float32.Operators.{◌⊕◌, ◌⊖◌, ◌⊗◌, ◌⊘◌, positive_zero, two}
use Rattle.trig.specs.SinCos.{sin, cos}
use Rattle.interval.specs.declared.Interval.{Interval}
use Rattle.interval.specs.Interval.{Interval-point, Interval-add, Interval-mul, Interval-sin, Interval-cos}
use Rattle.motion_derivative.specs.declared.MotionDerivative.{MotionDerivative}

-- I::from(a) + I::from(b) * i
unfoldable pub affine : Float → Float → Interval → Interval
affine a b i = Interval-add (Interval-point a) (Interval-mul (Interval-point b) i)

-- c = I::from(2.0 * theta) * i
abbrev pub MotionDerivative-angles : MotionDerivative → Interval → Interval
MotionDerivative-angles f i = Interval-mul (Interval-point (two ⊗ f.theta)) i

-- I::from(c1) + (I::from(c2) + I::from(c3) * i) * c.cos() + (I::from(c4) + I::from(c5) * i) * c.sin(), with c.sin() and c.cos() given
unfoldable pub MotionDerivative-range_at : MotionDerivative → Interval → Interval → Interval → Interval
MotionDerivative-range_at f i sines cosines =
    Interval-add
    (Interval-add (Interval-point f.c1) (Interval-mul (affine f.c2 f.c3 i) cosines))
    (Interval-mul (affine f.c4 f.c5 i) sines)

-- range.low > 0.0 || range.high < 0.0 || range.low == range.high
unfoldable pub MotionDerivative-excludes_zero_at : MotionDerivative → Interval → Interval → Interval → Bool
MotionDerivative-excludes_zero_at f i sines cosines =
    let range = MotionDerivative-range_at f i sines cosines in
    (lt positive_zero range.low || lt range.high positive_zero) || eq range.low range.high

unfoldable pub MotionDerivative-excludes_zero : MotionDerivative → Interval → Bool
MotionDerivative-excludes_zero f i = let c = MotionDerivative-angles f i in MotionDerivative-excludes_zero_at f i (Interval-sin c) (Interval-cos c)

-- f_newton, with the sine and the cosine of its angle given
unfoldable pub MotionDerivative-value_at : MotionDerivative → Float → Float → Float → Float
MotionDerivative-value_at f t sine cosine = f.c1 ⊕ (f.c2 ⊕ f.c3 ⊗ t) ⊗ cosine ⊕ (f.c4 ⊕ f.c5 ⊗ t) ⊗ sine

-- its angle is 2.0 * theta * t
unfoldable pub MotionDerivative-value : MotionDerivative → Float → Float
MotionDerivative-value f t = let a = two ⊗ f.theta ⊗ t in MotionDerivative-value_at f t (sin a) (cos a)

-- fprime_newton, likewise
unfoldable pub MotionDerivative-slope_at : MotionDerivative → Float → Float → Float → Float
MotionDerivative-slope_at f t sine cosine =
    (f.c3 ⊕ two ⊗ (f.c4 ⊕ f.c5 ⊗ t) ⊗ f.theta) ⊗ cosine ⊕
    (f.c5 ⊖ two ⊗ (f.c2 ⊕ f.c3 ⊗ t) ⊗ f.theta) ⊗ sine

-- its angle is 2.0 * t * theta
unfoldable pub MotionDerivative-slope : MotionDerivative → Float → Float
MotionDerivative-slope f t = let a = two ⊗ t ⊗ f.theta in MotionDerivative-slope_at f t (sin a) (cos a)

-- At most n rounds of the Newton loop from t: it is left where f_newton == 0.0 || fprime_newton == 0.0, and otherwise t_newton -= f_newton / fprime_newton.
unfoldable pub MotionDerivative-newton : MotionDerivative → ℕ → Float → Float
MotionDerivative-newton f zero t = t
MotionDerivative-newton f (suc n) t =
    let value = MotionDerivative-value f t in
    let slope = MotionDerivative-slope f t in
    cond (eq value positive_zero || eq slope positive_zero) t (MotionDerivative-newton f n (t ⊖ value ⊘ slope))
