-- `angles-in-range`: with a theta from 0 to a quarter turn, the angles of every interval that the search examines are as the assertions ask: 2
-- theta lies from 0 to a half turn, and so does its product with what lies in 0 to 1. Rests on `examined-unit` and on the product's four corners.
use mathlib.Core.Path.{◌≡◌, refl, subst}
use lib.Dec.{T}
use lib.Ieee.{Float, of_bits, mul, round, le, lt, is_nan}
use lib.Ieee.Fits.{and_i}
use Rattle.zero_search.specs.rounding.Order.{◌≼◌}
use Rattle.zero_search.proofs.rounding.Order.{≼_trans}
use Rattle.zero_search.specs.float32.MinMax.{min_num, max_num}
use Rattle.zero_search.specs.float32.Operators.{◌⊗◌, positive_zero, two}
use Rattle.zero_search.specs.trig.Range.{quarter_turn_float, half_turn_float}
use Rattle.zero_search.specs.interval.declared.Interval.{Interval}
use Rattle.zero_search.specs.interval.Contains.{Contains, Subset, Finite}
use Rattle.zero_search.specs.interval.Interval.{Interval-new, Interval-point, Interval-hull, Interval-of_four, Interval-mul}
use Rattle.zero_search.specs.interval.Enclosure.{Interval-mul_enclosure}
use Rattle.zero_search.proofs.interval.Contains.{subset-low, subset-high, point-encloses, new-subset}
use Rattle.zero_search.proofs.interval.Extends.{mul-contains}
use Rattle.zero_search.proofs.interval.Isotone.{of-four-subset}
use Rattle.motion_point.specs.unit_interval.Unit.{unit_interval}
use Rattle.motion_point.specs.pose_steps.Promise.{quarter_interval}
use Rattle.motion_point.proofs.pose_steps.Angle.{quarter-finite, unit-finite}
use Rattle.zero_search.specs.motion_derivative.declared.MotionDerivative.{MotionDerivative}
use Rattle.zero_search.specs.motion_derivative.Derivative.{MotionDerivative-angles}
use Rattle.search_range.specs.Examined.{Examined}
use Rattle.search_range.specs.Assertions.{range_limit, Interval-asserted}
use Rattle.search_range.proofs.Examined.{examined-unit}

abbrev pub half_turn : Interval
half_turn = record { low = positive_zero; high = half_turn_float }

half-turn-finite : Finite half_turn
half-turn-finite = record { low = unfold of_bits in tt; high = unfold of_bits in tt }

-- ---- 2 theta
doubled : Interval-mul_enclosure (Interval-point two) quarter_interval ≡ half_turn
unfolding Interval-mul_enclosure Interval-of_four Interval-hull Interval-new min_num max_num is_nan mul round lt of_bits
doubled = refl

double-half-turn : {θ : Float} → Contains quarter_interval θ → Contains half_turn (two ⊗ θ)
double-half-turn {θ} q =
    let t = point-encloses two (unfold of_bits in tt) in
    subst (λ (X : Interval). Contains X (two ⊗ θ)) doubled (mul-contains t.finite quarter-finite t.contains q)

-- ---- 2 theta times what lies in 0 to 1
scaled : Interval-mul_enclosure half_turn unit_interval ≡ half_turn
unfolding Interval-mul_enclosure Interval-of_four Interval-hull Interval-new min_num max_num is_nan mul round lt of_bits
scaled = refl

pub scale-half-turn : {a t : Float} → Contains half_turn a → Contains unit_interval t → Contains half_turn (a ⊗ t)
scale-half-turn {a} {t} h u = subst (λ (X : Interval). Contains X (a ⊗ t)) scaled (mul-contains half-turn-finite unit-finite h u)

pub angles-subset : (f : MotionDerivative) {j : Interval} → Contains quarter_interval f.theta
    → Subset j unit_interval → Subset (MotionDerivative-angles f j) half_turn
unfolding Interval-mul
angles-subset f q s =
    let a = double-half-turn q in
    let l = scale-half-turn a (subset-low s) in
    let h = scale-half-turn a (subset-high s) in
    let four = of-four-subset l l h h in
    new-subset (subset-low four) (subset-high four)

half-turn-limit : half_turn_float ≼ range_limit
half-turn-limit = record { holds = unfold le mul round of_bits in tt }

pub angles-in-range : (f : MotionDerivative) → positive_zero ≼ f.theta → f.theta ≼ quarter_turn_float
    → (j : Interval) → Examined f j → T (Interval-asserted (MotionDerivative-angles f j))
angles-in-range f l h j m =
    let c = MotionDerivative-angles f j in
    let s = angles-subset f (record { low = l; high = h }) (examined-unit f j m) in
    and_i (le positive_zero c.low) (le c.high range_limit) s.low.holds (≼_trans s.high half-turn-limit).holds
