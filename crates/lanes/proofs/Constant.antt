-- A number times an interval, by comparisons, is from the lesser to the greater of two products: `times-span`.
use mathlib.Core.Path.{◌≡◌, refl}
use mathlib.Core.Bool.{Bool, true, false, cond}
use lib.Ieee.{Float, lt}
use Rattle.interval.specs.float32.Operators.{◌⊗◌}
use Rattle.interval.specs.declared.Interval.{Interval}
use Rattle.interval.specs.Interval.{Interval-point}
use Rattle.interval_unjudged.specs.means.Ordered.{lesser, greater, Interval-of_four_ordered, Interval-mul_ordered}
use Rattle.lanes.specs.means.Lanes.{Lane, scaled, Interval-span, Lanes-lane, Lanes-of, Lanes-map}
use Rattle.lanes.specs.declared.Lanes.{Lanes}

same : (x : Float) (b : Bool) → cond b x x ≡ x
same x true = refl
same x false = refl

lesser-same : (x : Float) → lesser x x ≡ x
unfolding lesser
lesser-same x = same x (lt x x)

greater-same : (x : Float) → greater x x ≡ x
unfolding greater
greater-same x = same x (lt x x)

pub times-span : (x : Float) (Y : Interval) → Interval-span (x ⊗ Y.low) (x ⊗ Y.high) ≡ Interval-mul_ordered (Interval-point x) Y
unfolding Interval-span Interval-mul_ordered Interval-of_four_ordered
times-span x Y = rw (lesser-same (x ⊗ Y.low), lesser-same (x ⊗ Y.high), greater-same (x ⊗ Y.low), greater-same (x ⊗ Y.high))

pub times-lanes : (x : Float) (a : Lanes)
    → Lanes-of (λ (k : Lane). Interval-span (x ⊗ (Lanes-lane k a).low) (x ⊗ (Lanes-lane k a).high)) ≡ Lanes-map (Interval-mul_ordered (Interval-point x)) a
unfolding Lanes-map
times-lanes x a = λ i. Lanes-of (λ (k : Lane). times-span x (Lanes-lane k a) i)

pub scaled-span : (x : Float) (Y : Interval) → Interval-span (Y.low ⊗ x) (Y.high ⊗ x) ≡ scaled x Y
unfolding Interval-span Interval-mul_ordered Interval-of_four_ordered
scaled-span x Y = rw (lesser-same (lesser (Y.low ⊗ x) (Y.high ⊗ x)), greater-same (greater (Y.low ⊗ x) (Y.high ⊗ x)))

pub scaled-lanes : (x : Float) (a : Lanes)
    → Lanes-of (λ (k : Lane). Interval-span ((Lanes-lane k a).low ⊗ x) ((Lanes-lane k a).high ⊗ x)) ≡ Lanes-map (scaled x) a
unfolding Lanes-map
scaled-lanes x a = λ i. Lanes-of (λ (k : Lane). scaled-span x (Lanes-lane k a) i)
