-- What the search keeps at the ends of an interval: that a sine and a cosine are those of the angle at an end, `AngleAt`, and so at both, `AnglesAt`.
-- No definition of the search cites them.
use Rattle.std.specs.Prelude.{◌≡◌, Float}
use Rattle.trig.specs.float32.Operators.{◌⊗◌, two}
use Rattle.trig.specs.declared.SinCos.{SinCos}
use Rattle.trig.specs.SinCos.{sin, cos}
use Rattle.interval.specs.declared.Interval.{Interval}
use Rattle.motion_derivative.specs.declared.MotionDerivative.{MotionDerivative}
use Rattle.zero_search.specs.declared.EndAngles.{EndAngles}

-- s is the sine and the cosine of a.
abbrev pub SinCosOf : SinCos → Float → Type 0
SinCosOf s a = (s.sin ≡ sin a) × (s.cos ≡ cos a)

-- the angle is 2.0 * theta * t
abbrev pub AngleAt : MotionDerivative → Float → SinCos → Type 0
AngleAt f t s = SinCosOf s (two ⊗ f.theta ⊗ t)

abbrev pub AnglesAt : MotionDerivative → Interval → EndAngles → Type 0
AnglesAt f i ends = AngleAt f i.low ends.low × AngleAt f i.high ends.high
