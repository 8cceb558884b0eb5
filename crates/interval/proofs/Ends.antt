-- The cosine and the sine of an interval by its two ends, as code has them: `ends-cos`, `ends-sin`.
use mathlib.Core.Path.{◌≡◌}
use Rattle.trig.specs.declared.SinCos.{SinCos}
use Rattle.trig.specs.SinCos.{sin, cos}
use Rattle.interval.specs.declared.Interval.{Interval}
use Rattle.interval.specs.declared.EndAngle.{EndAngle}
use Rattle.interval.specs.Enclosure.{Interval-sin_enclosure, Interval-cos_enclosure}
use Rattle.interval.specs.means.EndAngle.{EndAngle-from_sin_cos, EndAngle-sin_range, EndAngle-cos_range}
use Rattle.interval.proofs.Places.{from-sin-cos, sin-range, cos-range}

module _ (x : Interval) (a b : SinCos) {from to : EndAngle} {X : Interval} (f : from ≡ EndAngle-from_sin_cos x.low a) (t : to ≡ EndAngle-from_sin_cos x.high b)
    (fs : a.sin ≡ sin x.low) (fc : a.cos ≡ cos x.low) (ts : b.sin ≡ sin x.high) (tc : b.cos ≡ cos x.high) where
  pub ends-cos : X ≡ EndAngle-cos_range from to → X ≡ Interval-cos_enclosure x
  ends-cos e = rw (e, from-sin-cos x.high b t ts tc, from-sin-cos x.low a f fs fc) (cos-range x.low x.high)

  pub ends-sin : X ≡ EndAngle-sin_range from to → X ≡ Interval-sin_enclosure x
  ends-sin e = rw (e, from-sin-cos x.high b t ts tc, from-sin-cos x.low a f fs fc) (sin-range x.low x.high)
