-- `theta-angles`: theta times a dt from 0 to 1 is an interval of angles, where theta lies from 0 to a quarter turn.
-- `theta-quarter`: so it does where it is the arc cosine of what is at least 0, and a move of such parts is valid (`new-valid`).
-- Rests on the product's isotonicity and on the arc cosine's range.
use mathlib.Core.Path.{◌≡◌, refl, ap, subst}
use mathlib.Core.Bool.{Bool, true, false, not, cond, ◌&&◌}
use lib.Dec.{T}
use lib.Ieee.{Float, of_bits, is_nan, lt, le, neg, mul, round}
use lib.Ieee.Fits.{and_i}
use lib.Ieee.Bits.{is_true}
use lib.Ieee.Scale.{finite}
use Rattle.matrix4x4.specs.rounding.Order.{◌≼◌}
use Rattle.matrix4x4.proofs.rounding.Order.{≼_refl, ≼_trans, number-right, between-finite, finite_number, lt-≼, not-lt-≼}
use Rattle.matrix4x4.proofs.rounding.Corners.{Bounds}
use Rattle.matrix4x4.specs.float32.Operators.{one}
use Rattle.matrix4x4.specs.float32.MinMax.{min_num, max_num}
use Rattle.matrix4x4.specs.float32.Clamp.{clamp}
use Rattle.quaternion.specs.arc_cosine.Acos.{acos, in_domain}
use Rattle.interval.specs.trig.Range.{quarter_turn_float, full_turn_float}
use Rattle.quaternion.proofs.arc_cosine.Range.{acos-range, acos-quarter}
use Rattle.matrix4x4.specs.Rows.{positive_zero}
use Rattle.vector3.specs.declared.Vector3f.{Vector3f}
use Rattle.quaternion.specs.declared.Quaternion.{Quaternion}
use Rattle.quaternion.specs.Quaternion.{Quaternion-dot}
use Rattle.interval.specs.declared.Interval.{Interval}
use Rattle.unit_interval.specs.Unit.{unit_interval}
use Rattle.interval.specs.Judged.{Judged}
use Rattle.interval.specs.Interval.{Interval-point, Interval-new, Interval-hull, Interval-of_four}
use Rattle.interval.specs.Contains.{Subset, Finite}
use Rattle.interval.specs.Enclosure.{are_angles, not_finite, Judged-judge, Interval-mul_enclosure, Judged-mul_enclosure}
use Rattle.interval.proofs.Isotone.{mul-isotone}
use Rattle.pose_steps.specs.Pose.{Vector3f-list, Quaternion-list, PoseConstants-new}
use Rattle.pose_steps.specs.Promise.{AllFinite, PoseConstants-Valid, quarter_interval}

pub quarter-finite : Finite quarter_interval
quarter-finite = record { low = unfold of_bits in tt; high = unfold of_bits in tt }

pub unit-finite : Finite unit_interval
unit-finite = record { low = unfold of_bits in tt; high = unfold of_bits in tt }

-- From 0 to a quarter turn, times from 0 to 1, is from 0 to a quarter turn.
products : Judged-mul_enclosure 0 quarter_interval unit_interval ≡ record { interval = quarter_interval; refusal = 0 }
unfolding Judged-mul_enclosure Judged-judge Interval-mul_enclosure Interval-of_four Interval-hull Interval-new min_num max_num is_nan mul round lt of_bits not_finite
products = refl

quarter-full : quarter_turn_float ≼ full_turn_float
quarter-full = record { holds = unfold le of_bits in tt }

pub theta-finite : {θ : Float} → positive_zero ≼ θ → θ ≼ quarter_turn_float → T (finite θ)
theta-finite l h = between-finite quarter-finite.low quarter-finite.high l h

pub theta-subset : {θ : Float} → positive_zero ≼ θ → θ ≼ quarter_turn_float → Subset (Interval-point θ) quarter_interval
theta-subset {θ} l h = record { low = l; proper = ≼_refl θ (number-right l); high = h }

pub theta-angles : {Θ D : Interval} → Subset Θ quarter_interval → Subset D unit_interval → T (are_angles (Interval-mul_enclosure Θ D))
unfolding Judged-mul_enclosure Judged-judge
theta-angles {Θ} {D} t d =
    let X = Interval-mul_enclosure Θ D in
    let s = (mul-isotone.isotone 0 0 (record { finite = quarter-finite; subset = t })
    (record { finite = unit-finite; subset = d }) refl (ap (λ (j : Judged). j.refusal) products)).refines.subset in
    let r : Subset X quarter_interval = subst (λ (j : Judged). Subset X j.interval) products s in
    and_i (le positive_zero X.low) (le X.high full_turn_float) r.low.holds (≼_trans r.high quarter-full).holds

-- ---- the arc cosine of a dot product
below-zero : neg one ≼ positive_zero
below-zero = record { holds = unfold le neg of_bits in tt }

not-below : {c : Float} → positive_zero ≼ c → c ≼ neg one → ⊥
not-below l h = let t = (≼_trans l h).holds in unfold le neg of_bits in t

clamped : (c : Float) → T (finite c) → positive_zero ≼ c → (in_domain (clamp c (neg one) one) ≡ true) × (positive_zero ≼ clamp c (neg one) one)
unfolding clamp
clamped c f l =
    go (lt c (neg one)) (lt one c) (λ t. not-below l (lt-≼ c (neg one) t)) (λ t. not-lt-≼ c one (finite_number c f) (finite_number one unit-finite.high) t)
  where
    go : (a b : Bool) → (T a → ⊥) → (T (not b) → c ≼ one)
        → (in_domain (cond a (neg one) (cond b one c)) ≡ true) × (positive_zero ≼ cond a (neg one) (cond b one c))
    go true b never below = absurd (never tt)
    go false true never below = (unfold le neg of_bits in refl, record { holds = unfold le of_bits in tt })
    go false false never below =
        (is_true (le (neg one) c && le c one) (and_i (le (neg one) c) (le c one) (≼_trans below-zero l).holds (below tt).holds), l)

pub theta-quarter : (c : Float) → T (finite c) → positive_zero ≼ c → Bounds positive_zero quarter_turn_float (acos (clamp c (neg one) one))
theta-quarter c f l =
    let (d, n) = clamped c f l in
    record { below = (acos-range (clamp c (neg one) one) d).below; above = acos-quarter (clamp c (neg one) one) d n }

-- A move whose parts are finite and whose rotations have a finite dot product of at least 0 is valid.
pub new-valid : (k : Bool) (t0 t1 : Vector3f) (r0 r1 : Quaternion) → AllFinite (Vector3f-list t0)
    → AllFinite (Vector3f-list t1) → AllFinite (Quaternion-list r0) → AllFinite (Quaternion-list r1)
    → T (finite (Quaternion-dot r0 r1)) → positive_zero ≼ Quaternion-dot r0 r1 → PoseConstants-Valid (PoseConstants-new k t0 t1 r0 r1)
unfolding PoseConstants-new
new-valid k t0 t1 r0 r1 a b c d f l =
    let q = theta-quarter (Quaternion-dot r0 r1) f l in
    record { t0 = a; t1 = b; r0 = c; r1 = d; cos_theta = f; theta-from-zero = q.below; theta-to-quarter = q.above }
