-- Far angles in the zero search, document 02's "Far angles in the Newton steps": `MeetsFar`, a run of Newton's steps that meets one; `EndsInNan`,
-- `EndsInNanBelow` and `StoresNone`, what becomes of such a run; `AnglesNear`, that the poses and the cover of a move meet none. Definitions only.
use Rattle.std.specs.Prelude.{◌≡◌, ◌⊎◌, true, false, ◌||◌, ℕ, suc, T, Float}
use Rattle.std.specs.Float.{nan, binary32}
use Rattle.std.specs.Float.Ieee.{of_bits, fits, lt, eq}
use Rattle.zero_search.specs.float32.Abs.{abs}
use Rattle.zero_search.specs.float32.Operators.{◌⊖◌, ◌⊗◌, ◌⊘◌, positive_zero, two}
use Rattle.zero_search.specs.trig.SinCos.{near}
use Rattle.zero_search.specs.interval.declared.Interval.{Interval}
use Rattle.zero_search.specs.interval.Contains.{Subset}
use Rattle.zero_search.specs.interval.Interval.{Interval-point, Interval-midpoint}
use Rattle.zero_search.specs.interval.Enclosure.{Interval-mul_enclosure}
use Rattle.motion_point.specs.unit_interval.Unit.{unit_interval, dt}
use Rattle.zero_search.specs.motion_derivative.declared.MotionDerivative.{MotionDerivative}
use Rattle.zero_search.specs.motion_derivative.Derivative.{MotionDerivative-angles, MotionDerivative-value, MotionDerivative-slope, MotionDerivative-newton}
use Rattle.zero_search.specs.zero_list.declared.Zeros.{Zeros}
use Rattle.zero_search.specs.Search.{newton_zero}
use Rattle.zero_search.specs.zero_list.Zeros.{Zeros-accept}
use Rattle.motion_point.specs.animated_transform.declared.AnimatedTransform.{AnimatedTransform}
use Rattle.motion_point.specs.TransformPoint.{AnimatedTransform-constants}
use Rattle.search_range.specs.Examined.{Examined}

-- document 02: "angles of size 2^24 or more, or not finite"
abbrev pub Far : Float → Type 0
Far a = near a ≡ false

-- 2.0 * theta * t, the angle of f_newton
abbrev pub value_angle : MotionDerivative → Float → Float
value_angle f t = two ⊗ f.theta ⊗ t

-- 2.0 * t * theta, that of fprime_newton
abbrev pub slope_angle : MotionDerivative → Float → Float
slope_angle f t = two ⊗ t ⊗ f.theta

-- At most n steps from t, as `MotionDerivative-newton` takes them, meet a far angle at u.
pub data MeetsFar (f : MotionDerivative) : ℕ → Float → Float → Type 0 where
  here : {n : ℕ} {t : Float} → Far (value_angle f t) ⊎ Far (slope_angle f t) → MeetsFar f (suc n) t t
  further : {n : ℕ} {t u : Float}
      → (eq (MotionDerivative-value f t) positive_zero || eq (MotionDerivative-slope f t) positive_zero) ≡ false
      → MeetsFar f n (t ⊖ MotionDerivative-value f t ⊘ MotionDerivative-slope f t) u
      → MeetsFar f (suc n) t u

-- |x| is below 2^127, so that 2.0 * x does not overflow.
abbrev pub Doubles : Float → Type 0
Doubles x = lt (abs x) (of_bits binary32 0x7f000000) ≡ true

-- document 02: "a run of steps that meets such an angle ends in NaN".
abbrev pub EndsInNan : MotionDerivative → Type 0
EndsInNan f = (n : ℕ) (t u : Float) → T (fits binary32 t) → MeetsFar f n t u → MotionDerivative-newton f n t ≡ nan

-- The same where it is met at a u below 2^127 in size.
abbrev pub EndsInNanBelow : MotionDerivative → Type 0
EndsInNanBelow f = (n : ℕ) (t u : Float) → T (fits binary32 t) → MeetsFar f n t u → Doubles u → MotionDerivative-newton f n t ≡ nan

-- ".. and stores no zero": from the midpoint of an interval that the search examines, what the run leaves there is not taken.
abbrev pub StoresNone : MotionDerivative → Type 0
StoresNone f = (j : Interval) (u : Float) (z : Zeros) → Examined f j → MeetsFar f 4 (Interval-midpoint j) u → Zeros-accept z j (newton_zero f j) ≡ z

-- The angle of slerp at every time between the ends, those at the ends of every interval of dt, as a cover's slices are, and those of every interval that a
-- search with the move's theta examines.
pub record AnglesNear (m : AnimatedTransform) : Type 0 where
  pub pose : (time : Float) → T (lt m.start_time time) → T (lt time m.end_time)
      → near ((AnimatedTransform-constants m).theta ⊗ dt m.start_time m.end_time time) ≡ true
  pub cover : (D : Interval) → Subset D unit_interval
      → let c = Interval-mul_enclosure (Interval-point (AnimatedTransform-constants m).theta) D in (near c.low ≡ true) × (near c.high ≡ true)
  pub search : (f : MotionDerivative) (j : Interval) → f.theta ≡ (AnimatedTransform-constants m).theta → Examined f j
      → let c = MotionDerivative-angles f j in (near c.low ≡ true) × (near c.high ≡ true)
