-- A combination of two quaternions of one number each is finite only where these are:
-- `combination-points`. A finite length above zero is positive, and so is its square.
use mathlib.Core.Path.{◌≡◌}
use mathlib.Core.Bool.{true}
use mathlib.Core.List.{◌++◌}
use lib.Dec.{T}
use lib.Ieee.{Float, binary32, of_bits, lt}
use Rattle.square_root.specs.SquareRoot.{sqrt}
use Rattle.quaternion.specs.declared.Quaternion.{Quaternion}
use Rattle.interval.specs.declared.Interval.{Interval}
use Rattle.interval.specs.Contains.{Finite}
use Rattle.interval.specs.Interval.{Interval-point}
use Rattle.interval.specs.Enclosure.{Interval-sqrt_enclosure}
use Rattle.interval_unjudged.specs.means.Ordered.{Interval-mul_ordered}
use Rattle.interval_unjudged.specs.means.Unjudged.{All, Positive}
use Rattle.interval_unjudged.proofs.Finite.{add-operands, left-point}
use Rattle.interval_unjudged.proofs.Positive.{above_zero, positive-finite, rooted-positive}
use Rattle.interval_unjudged.proofs.Unjudged.{all_append}
use Rattle.pose_steps.specs.declared.IntervalQuaternion.{IntervalQuaternion}
use Rattle.pose_steps.specs.Enclose.{IntervalQuaternion-list, IntervalQuaternion-point}
use Rattle.pose_slerp.specs.means.Unjudged.{weighed, IntervalQuaternion-combination}

weighed-points : (x y : Float) (a b : Interval) → Finite (weighed (Interval-point x) a (Interval-point y) b)
    → Finite (Interval-point x) × Finite (Interval-point y)
weighed-points x y a b f =
    let g = add-operands (Interval-mul_ordered (Interval-point x) a) (Interval-mul_ordered (Interval-point y) b) f in
    (left-point x a g.0, left-point y b g.1)

pub combination-points : (p q : Quaternion) (a b : Interval)
    → All Finite (IntervalQuaternion-list (IntervalQuaternion-combination (IntervalQuaternion-point p) (IntervalQuaternion-point q) a b))
    → All Finite (IntervalQuaternion-list (IntervalQuaternion-point p)) × All Finite (IntervalQuaternion-list (IntervalQuaternion-point q))
unfolding IntervalQuaternion-combination
combination-points p q a b f =
    let x = weighed-points p.v.x q.v.x a b f.0 in
    let y = weighed-points p.v.y q.v.y a b f.1.0 in
    let z = weighed-points p.v.z q.v.z a b f.1.1.0 in
    let w = weighed-points p.w q.w a b f.1.1.1.0 in
    ((x.0, (y.0, (z.0, (w.0, tt)))), (x.1, (y.1, (z.1, (w.1, tt)))))

-- ---- lengths
pub positive-interval : (X : Interval) → Finite X → lt (of_bits binary32 0) X.low ≡ true → lt (of_bits binary32 0) X.high ≡ true → Positive X
positive-interval X f l h = record { low = above_zero X.low f.low l; high = above_zero X.high f.high h }

pub positive-interval-finite : (X : Interval) → Positive X → Finite X
positive-interval-finite X p = record { low = positive-finite X.low p.low; high = positive-finite X.high p.high }

pub squared-positive : (X : Interval) → Positive (Interval-sqrt_enclosure X) → Positive X
unfolding Interval-sqrt_enclosure
squared-positive X p = record { low = rooted-positive X.low p.low; high = rooted-positive X.high p.high }
