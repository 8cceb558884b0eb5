-- 000's `interval_find_zeros` by value: the zeros found, in an array of eight with a count, and the refusal 9 where a ninth would be stored, at which
-- the search ends; with them how many intervals it examined. `interval_find_zeros` is the search from 0 to 1 at depth 8; after 9 it answers nothing else.
-- Definitions only.
use Rattle.std.specs.Prelude.{ℕ, zero, suc, ◌+◌, Bool, true, false, cond, eqb, Float}
use Rattle.trig.specs.float32.Operators.{positive_zero, one}
use Rattle.interval.specs.declared.Interval.{Interval}
use Rattle.interval.specs.Interval.{Interval-new, Interval-midpoint}
use Rattle.motion_derivative.specs.declared.MotionDerivative.{MotionDerivative}
use Rattle.zero_list.specs.declared.Zeros.{Zeros}
use Rattle.zero_list.specs.Zeros.{Zeros-empty, Zeros-accept}
use Rattle.zero_search.specs.declared.Search.{Search}
use Rattle.motion_derivative.specs.Derivative.{MotionDerivative-excludes_zero, MotionDerivative-newton}

-- Newton's result from the midpoint, after `for _ in 0..4`.
abbrev pub newton_zero : MotionDerivative → Interval → Float
newton_zero f i = MotionDerivative-newton f 4 (Interval-midpoint i)

-- Interval::new(i.low, mid) and Interval::new(mid, i.high)
abbrev pub lower_half : Interval → Interval
lower_half i = Interval-new i.low (Interval-midpoint i)

abbrev pub upper_half : Interval → Interval
upper_half i = Interval-new (Interval-midpoint i) i.high

-- The body of 000's interval_find_zeros at a depth; whether the range test leaves the interval out is an argument, to match on.
-- The zeros found, those handed in first, and how many intervals were examined: each once, document 02's "roots included", also one that is halved no further,
-- and "an interval dropped by its range counts as one".
unfoldable pub search : ℕ → Bool → MotionDerivative → Interval → Zeros → Search
search zero true f i z = record { zeros = z; examined = 1 }
search (suc d) true f i z = record { zeros = z; examined = 1 }
search zero false f i z = record { zeros = Zeros-accept z i (newton_zero f i); examined = 1 }
search (suc d) false f i z =
    let lower = search d (MotionDerivative-excludes_zero f (lower_half i)) f (lower_half i) z in
    let upper = search d (MotionDerivative-excludes_zero f (upper_half i)) f (upper_half i) lower.zeros in
    cond (eqb lower.zeros.refusal 0)
    (record { zeros = upper.zeros; examined = 1 + lower.examined + upper.examined })
    (record { zeros = lower.zeros; examined = 1 + lower.examined })

abbrev pub find_zeros : ℕ → MotionDerivative → Interval → Zeros → Search
find_zeros d f i z = search d (MotionDerivative-excludes_zero f i) f i z

-- How often 0 to 1 is halved.
abbrev pub search_depth : ℕ
search_depth = 8

-- `Interval::new(0.0, 1.0)`
abbrev pub searched_interval : Interval
searched_interval = Interval-new positive_zero one

abbrev pub unit_search : MotionDerivative → Search
unit_search f = find_zeros search_depth f searched_interval (Zeros-empty 0)

-- document 01: "after a refusal every other number in it is +0"; document 02: "A refusal 9 carries no counts"
abbrev pub Search-refused : Search
Search-refused = record { zeros = Zeros-empty 9; examined = 0 }

-- A search's answer: what was found and examined, unless it was refused; 9 is a search's only refusal (`Stored`).
unfoldable pub Search-judged : Search → Search
Search-judged s = cond (eqb s.zeros.refusal 0) s Search-refused

-- interval_find_zeros from 0 to 1 at depth 8, as bound_point_motion calls it
unfoldable pub interval_find_zeros : Float → Float → Float → Float → Float → Float → Search
interval_find_zeros c1 c2 c3 c4 c5 theta = Search-judged (unit_search (record { c1 = c1; c2 = c2; c3 = c3; c4 = c4; c5 = c5; theta = theta }))
