-- The intervals that a zero search examines, in its order: `search_intervals`, and `Examined` for the search from 0 to 1 at depth 8. Definitions only.
-- They follow the search itself, which counts them (`search_intervals-count`): one is examined where the range test is made for it, and so
-- where 000 takes the sine and the cosine of its angles. 000 panics where a ninth zero would be stored, so that it too examines none after that.
use Rattle.std.specs.Prelude.{ℕ, zero, suc, Bool, true, false, cond, eqb}
use mathlib.Core.List.{List, [], ◌∷◌, ◌++◌, Memᴰ}
use Rattle.zero_search.specs.interval.declared.Interval.{Interval}
use Rattle.zero_search.specs.motion_derivative.declared.MotionDerivative.{MotionDerivative}
use Rattle.zero_search.specs.motion_derivative.Derivative.{MotionDerivative-excludes_zero}
use Rattle.zero_search.specs.zero_list.declared.Zeros.{Zeros}
use Rattle.zero_search.specs.Search.{lower_half, upper_half, find_zeros, search_depth, searched_interval}
use Rattle.zero_search.specs.zero_list.Zeros.{Zeros-empty}

-- The search's own interval; then, unless the range test leaves it out or the depth is 0,
-- those of its lower half, and those of its upper half unless 9 was met.
unfoldable pub search_intervals : ℕ → Bool → MotionDerivative → Interval → Zeros → List Interval
search_intervals zero true f i z = i ∷ []
search_intervals (suc d) true f i z = i ∷ []
search_intervals zero false f i z = i ∷ []
search_intervals (suc d) false f i z =
    let lower = (find_zeros d f (lower_half i) z).zeros in
    i ∷
    search_intervals d (MotionDerivative-excludes_zero f (lower_half i)) f (lower_half i) z ++
    cond (eqb lower.refusal 0)
    (search_intervals d (MotionDerivative-excludes_zero f (upper_half i)) f (upper_half i) lower)
    []

-- Those of interval_find_zeros on the six numbers of f.
unfoldable pub examined_intervals : MotionDerivative → List Interval
examined_intervals f = search_intervals search_depth (MotionDerivative-excludes_zero f searched_interval) f searched_interval (Zeros-empty 0)

-- j is one of them.
abbrev pub Examined : MotionDerivative → Interval → Type 0
Examined f j = Memᴰ j (examined_intervals f)
