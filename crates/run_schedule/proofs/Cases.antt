-- Days by computing. One of three booms is accepted, so that what is promised of an accepted day is promised of one (`three-keep`):
-- the second touches the first, waits for it and starts in the tick in which that one is over; the third meets neither and starts
-- at once. A boom that was started in the same tick runs, and list order decides. The order of the numbers.
use Prim.Native.Nat.{ℕ}
use mathlib.Core.Path.{◌≡◌, refl, subst}
use mathlib.Core.Bool.{false}
use mathlib.Core.List.{List, [], ◌∷◌}
use lib.ListN.{replicate}
use lib.Ieee.{Float, nan, binary32, round, le, lt}
use Rattle.bounds_overlap.specs.bounds3.means.Computing as bounds3
use Rattle.bounds_overlap.specs.Meets.{Bounds3f-meets}
use Rattle.bounds_query.specs.Query.{Bounds3f-is_ordered, Bounds3f-refusal}
use Rattle.run_schedule.specs.Day.{Boom, some_below, sum_below, taken, taken_below, before, start_ticks, first_box_refusal, day_refusal}
use Rattle.run_schedule.specs.Theorem.{DayKeeps}
use Rattle.run_schedule.proofs.Keeps.{day-keeps}
use Rattle.run_schedule.proofs.Accepted.{day-accepted}

unfoldable computing : Unit {0}
unfolding le lt bounds3.computing Bounds3f-meets Bounds3f-is_ordered Bounds3f-refusal some_below sum_below taken taken_below before start_ticks first_box_refusal
    day_refusal
computing = tt

abbrev whole : ℕ → Float
whole n = round binary32 false n 1

-- A boom over the numbers from low to high along x.
abbrev boom : Float → Float → ℕ → Boom
boom low high ticks =
    let o = whole 0 in
    let one = whole 1 in
    record { box = record { p_min = record { x = low; y = o; z = o }; p_max = record { x = high; y = one; z = one } }; ticks = ticks }

abbrev over : ℕ → ℕ → ℕ → Boom
over low high ticks = boom (whole low) (whole high) ticks

abbrev three : List Boom
three = over 0 2 3 ∷ over 2 4 2 ∷ over 5 6 1 ∷ []

pub three-accepted : day_refusal three ≡ 0
unfolding computing
three-accepted = refl

pub three-start : start_ticks three ≡ 0 ∷ 3 ∷ 0 ∷ []
unfolding computing
three-start = refl

pub three-keep : DayKeeps three (0 ∷ 3 ∷ 0 ∷ [])
three-keep = subst (DayKeeps three) three-start (day-keeps three (λ i h. ((day-accepted three three-accepted).ticks i h).0))

-- The second waits for the first, and the third, which meets the second alone, starts before it: no boom that waits holds back another.
waiting-holds-none-back : start_ticks (over 0 2 2 ∷ over 1 5 1 ∷ over 4 6 3 ∷ []) ≡ 0 ∷ 3 ∷ 0 ∷ []
unfolding computing
waiting-holds-none-back = refl

same-box-in-order : start_ticks (over 0 1 2 ∷ over 0 1 1 ∷ over 0 1 4 ∷ []) ≡ 0 ∷ 2 ∷ 3 ∷ []
unfolding computing
same-box-in-order = refl

none-22 : day_refusal [] ≡ 22
unfolding computing
none-22 = refl

nine-22 : day_refusal (replicate 9 (over 0 1 1)) ≡ 22
unfolding computing
nine-22 = refl

eight-thousand : day_refusal (replicate 8 (over 0 1 1000)) ≡ 0
unfolding computing
eight-thousand = refl

length-0-before-6 : day_refusal (boom nan nan 1 ∷ over 0 1 0 ∷ []) ≡ 22
unfolding computing
length-0-before-6 = refl

length-1001 : day_refusal (over 0 1 1001 ∷ []) ≡ 22
unfolding computing
length-1001 = refl

first-box-7-before-6 : day_refusal (over 1 0 1 ∷ boom nan nan 1 ∷ []) ≡ 7
unfolding computing
first-box-7-before-6 = refl
