-- `excludes_zero` meets its contract: where the angles at the ends are in order they are the ends of the angles' interval (`mul-ordered`).
use mathlib.Core.Path.{◌≡◌}
use Rattle.trig.specs.declared.SinCos.{SinCos}
use Rattle.interval.specs.declared.Interval.{Interval}
use Rattle.interval.specs.Interval.{Interval-sin, Interval-cos, Interval-sin_between, Interval-cos_between}
use Rattle.motion_derivative.specs.declared.MotionDerivative.{MotionDerivative}
use Rattle.motion_derivative.specs.Derivative.{MotionDerivative-angles, MotionDerivative-excludes_zero_at, MotionDerivative-excludes_zero}
use Rattle.interval.proofs.InOrder.{mul-ordered}
use Rattle.zero_search.specs.means.EndAngles.{SinCosOf}
use Rattle.zero_search.proofs.excludes_zero.Goals as goal

ends-known : (f : MotionDerivative) (i c : Interval) (a b : SinCos) → MotionDerivative-angles f i ≡ c → SinCosOf a c.low → SinCosOf b c.high
    → MotionDerivative-excludes_zero_at f i (Interval-sin_between c a.sin b.sin) (Interval-cos_between c a.cos b.cos)
    ≡ MotionDerivative-excludes_zero f i
unfolding MotionDerivative-excludes_zero Interval-sin Interval-cos
ends-known f i c a b e low high = rw (e, low.0, low.1, high.0, high.1)

pub returns-then-c : goal.returns-then-c
returns-then-c c = record {
  value = let ends = c.requires in
      rw (c.excludes_zero_at.ensures.value, c.cos_between-cos.ensures.value, c.sin_between-sin.ensures.value)
      (ends-known _ _ _ _ _ (mul-ordered _ _ c.if-c.true) ends.0 ends.1);
}

pub returns : goal.returns
returns c = record { value = c.excludes_zero.ensures.value }
