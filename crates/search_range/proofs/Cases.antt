-- Cases of the definitions, by computing: the limit's bits; for t - 1/2, the intervals of a search at depth 1, and those of the whole search for a constant;
-- angles at which the assertions hold, and at which each fails; runs that meet a far angle and don't end in NaN, since theta doesn't double, or is 0.
use mathlib.Core.Path.{◌≡◌, refl}
use mathlib.Core.Bool.{true, false}
use mathlib.Core.List.{[], ◌∷◌}
use lib.Ieee.{Float, binary32, of_bits, neg}
use Rattle.zero_search.specs.float32.Operators.{positive_zero, one, two, four, half}
use Rattle.zero_search.specs.interval.Interval.{Interval-new}
use Rattle.zero_search.specs.motion_derivative.declared.MotionDerivative.{MotionDerivative}
use Rattle.zero_search.specs.trig.SinCos.{near}
use Rattle.zero_search.specs.motion_derivative.Derivative.{MotionDerivative-angles, MotionDerivative-newton}
use Rattle.zero_search.specs.Search.{searched_interval}
use Rattle.zero_search.specs.zero_list.Zeros.{Zeros-empty}
use Rattle.zero_search.specs.means.Computing.{computing}
use Rattle.search_range.specs.Examined.{search_intervals, examined_intervals}
use Rattle.search_range.specs.Assertions.{range_limit, Interval-asserted}
use Rattle.search_range.specs.Far.{value_angle, slope_angle}

limit-bits : range_limit ≡ of_bits binary32 0x40c9126d
unfolding computing
limit-bits = refl

-- a + b t
abbrev line : Float → Float → Float → MotionDerivative
line a b theta = record { c1 = a; c2 = positive_zero; c3 = b; c4 = positive_zero; c5 = positive_zero; theta = theta }

halves-examined : search_intervals 1 false (line (neg half) one positive_zero) searched_interval
    (Zeros-empty 0) ≡ searched_interval ∷ Interval-new positive_zero half ∷ Interval-new half one ∷ []
unfolding computing search_intervals
halves-examined = refl

constant-examined : examined_intervals (line one positive_zero positive_zero) ≡ searched_interval ∷ []
unfolding computing search_intervals examined_intervals
constant-examined = refl

angles-hold : Interval-asserted (MotionDerivative-angles (line one positive_zero two) searched_interval) ≡ true
unfolding computing
angles-hold = refl

angles-beyond : Interval-asserted (MotionDerivative-angles (line one positive_zero four) searched_interval) ≡ false
unfolding computing
angles-beyond = refl

angles-below : Interval-asserted (MotionDerivative-angles (line one positive_zero (neg one)) searched_interval) ≡ false
unfolding computing
angles-below = refl

-- theta is 3e38, t is 1e-35: 2.0 * theta overflows, so that the value is NaN; the slope is 0, and the run ends at t.
abbrev still : MotionDerivative
still = line positive_zero positive_zero (of_bits binary32 0x7f61b1e6)

abbrev tiny : Float
tiny = of_bits binary32 0x0554ad2e

value-angle-far : near (value_angle still tiny) ≡ false
unfolding computing
value-angle-far = refl

slope-angle-near : near (slope_angle still tiny) ≡ true
unfolding computing
slope-angle-near = refl

ends-at-t : MotionDerivative-newton still 4 tiny ≡ tiny
unfolding computing
ends-at-t = refl

-- theta is 0, as that of a move without rotation may be, and t is 2^127: 2.0 * t overflows, so that the slope's angle is NaN; the value is 0, and the run
-- ends at t.
abbrev unturned : MotionDerivative
unturned = line positive_zero positive_zero positive_zero

abbrev large : Float
large = of_bits binary32 0x7f000000

unturned-far : near (slope_angle unturned large) ≡ false
unfolding computing
unturned-far = refl

unturned-ends-at-t : MotionDerivative-newton unturned 4 large ≡ large
unfolding computing
unturned-ends-at-t = refl
