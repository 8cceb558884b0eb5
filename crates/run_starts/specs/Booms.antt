-- The booms of a day in lent arrays, a box of six floats and a run length each, and what is left in the lent starting ticks. Definitions only.
use Rattle.std.specs.Prelude.{ℕ, zero, suc, ◌-◌, cond, List, [], ◌∷◌, ◌++◌, eqb, length, get_or, drop, replicate, Float}
use Rattle.bounds_overlap.specs.bounds3.List.{Bounds3f-of_list}
use Rattle.run_schedule.specs.Day.{Boom, day_refusal, start_ticks, max_booms}

-- The first `count` booms. (Where there are fewer places, `count` is above 8, and the list is refused whatever they hold.)
unfoldable pub Booms-of_lists : ℕ → List (List Float) → List ℕ → List Boom
Booms-of_lists zero boxes lengths = []
Booms-of_lists (suc count) boxes lengths =
    record { box = Bounds3f-of_list (get_or boxes 0 []); ticks = get_or lengths 0 0 } ∷ Booms-of_lists count (drop 1 boxes) (drop 1 lengths)

-- The starting ticks in order, and 0 in the unused places. A refusal leaves all as it was.
abbrev pub starts_places : List Boom → List ℕ
starts_places booms = start_ticks booms ++ replicate (max_booms - length booms) 0

unfoldable pub starts_left : List Boom → List ℕ → List ℕ
starts_left booms old = cond (eqb (day_refusal booms) 0) (starts_places booms) old
