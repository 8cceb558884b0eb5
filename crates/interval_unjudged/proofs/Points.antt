-- Product and quotient by comparisons of intervals of one number are the interval of one number: `mul-ordered-point`, `div-ordered-point`.
-- One number times an interval has the products of the ends, where these rise: `mul-ordered-rising`.
use mathlib.Core.Path.{◌≡◌, refl}
use mathlib.Core.Bool.{Bool, true, false, cond}
use lib.Ieee.{Float, lt}
use Rattle.interval.specs.float32.Operators.{◌⊗◌, ◌⊘◌}
use Rattle.interval.specs.declared.Interval.{Interval}
use Rattle.interval.specs.Interval.{Interval-point}
use Rattle.interval.proofs.InOrder.{lt-asym}
use Rattle.interval_unjudged.specs.means.Ordered.{lesser, greater, Interval-of_four_ordered, Interval-mul_ordered, Interval-div_ordered}

same : (x : Float) (b : Bool) → cond b x x ≡ x
same x true = refl
same x false = refl

lesser-same : (x : Float) → lesser x x ≡ x
unfolding lesser
lesser-same x = same x (lt x x)

greater-same : (x : Float) → greater x x ≡ x
unfolding greater
greater-same x = same x (lt x x)

four_same : (x : Float) → Interval-of_four_ordered x x x x ≡ Interval-point x
unfolding Interval-of_four_ordered
four_same x = simp (lesser-same, greater-same)

pub mul-ordered-point : (x y : Float) → Interval-mul_ordered (Interval-point x) (Interval-point y) ≡ Interval-point (x ⊗ y)
unfolding Interval-mul_ordered
mul-ordered-point x y = four_same (x ⊗ y)

pub div-ordered-point : (x y : Float) → Interval-div_ordered (Interval-point x) (Interval-point y) ≡ Interval-point (x ⊘ y)
unfolding Interval-div_ordered
div-ordered-point x y = four_same (x ⊘ y)

pub mul-ordered-rising : (x : Float) (Y : Interval) → lt (x ⊗ Y.low) (x ⊗ Y.high) ≡ true
    → Interval-mul_ordered (Interval-point x) Y ≡ record { low = x ⊗ Y.low; high = x ⊗ Y.high }
unfolding Interval-mul_ordered Interval-of_four_ordered
mul-ordered-rising x Y h =
    let p = x ⊗ Y.low in
    let q = x ⊗ Y.high in
    rw (lesser-same p, lesser-same q, greater-same p, greater-same q) (unfold lesser greater in rw (lt-asym p q h, h))
