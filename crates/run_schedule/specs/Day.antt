-- A day of booms, tick by tick, and the tick in which each of them starts. Definitions only. Quotations are of document 02, "A day of booms".
-- Booms are told apart by their places in the list, which count from 0.
use Rattle.std.specs.Prelude.{ℕ, zero, suc, ◌+◌, Bool, true, false, not, ◌&&◌, ◌||◌, cond, List, [], ◌∷◌, map, eqb, ltb, length, get_or, set}
use Rattle.bounds_overlap.specs.bounds3.declared.Bounds3f.{Bounds3f}
use Rattle.bounds_overlap.specs.bounds3.List.{Bounds3f-of_list}
use Rattle.bounds_overlap.specs.Meets.{Bounds3f-meets}
use Rattle.bounds_query.specs.Query.{Bounds3f-refusal}

-- "Each has a chain's cover, given as its two corners, and a run length"
pub record Boom : Type 0 where
  pub box : Bounds3f
  pub ticks : ℕ

-- What a boom has done so far: it waits, or it was started in a tick.
pub data Run : Type 0 where
  waiting : Run
  started : ℕ → Run

abbrev pub Run-waits : Run → Bool
Run-waits waiting = true
Run-waits (started s) = false

-- "A run started in tick s is over in tick s plus its length": whether it goes on in tick t
abbrev pub Run-goes_on : Run → ℕ → ℕ → Bool
Run-goes_on waiting ticks t = false
Run-goes_on (started s) ticks t = ltb t (s + ticks)

-- Whether a test holds of some place below n.
unfoldable pub some_below : ℕ → (ℕ → Bool) → Bool
some_below zero test = false
some_below (suc n) test = some_below n test || test n

-- The sum of the values at the places below n.
unfoldable pub sum_below : ℕ → (ℕ → ℕ) → ℕ
sum_below zero value = 0
sum_below (suc n) value = sum_below n value + value n

module _ (booms : List Boom) where
  -- No place outside the list is ever read.
  abbrev pub boom_at : ℕ → Boom
  boom_at i = get_or booms i (record { box = Bounds3f-of_list []; ticks = 0 })

  -- Whether the boom at a place runs in tick t: "In each tick, booms whose run is over stop first"
  abbrev pub runs_in : ℕ → List Run → ℕ → Bool
  runs_in t runs i = Run-goes_on (get_or runs i waiting) (boom_at i).ticks t

  -- Whether the box at a place meets the box of a running boom.
  abbrev pub meets_running : ℕ → List Run → ℕ → Bool
  meets_running t runs i = some_below (length booms) (λ j. runs_in t runs j && Bounds3f-meets (boom_at i).box (boom_at j).box)

  -- "one starts if its box meets, even by touching, no running boom's box"
  unfoldable pub taken : ℕ → ℕ → List Run → List Run
  taken t i runs = cond (Run-waits (get_or runs i waiting) && not (meets_running t runs i)) (set runs i (started t)) runs

  -- "then the waiting ones are taken in list order": the first k of the list. One that is started is running when the next is taken.
  unfoldable pub taken_below : ℕ → ℕ → List Run → List Run
  taken_below t zero runs = runs
  taken_below t (suc k) runs = taken t k (taken_below t k runs)

  -- What each boom has done before tick t: "all wait from tick 0"
  unfoldable pub before : ℕ → List Run
  before zero = map (λ b. waiting) booms
  before (suc t) = taken_below t (length booms) (before t)

  -- The sum of all run lengths, in ticks: by then each boom has started (`each-starts`).
  abbrev pub all_ticks : ℕ
  all_ticks = sum_below (length booms) (λ i. (boom_at i).ticks)

-- The tick in which a run was started. (None waits where this is asked.)
abbrev pub Run-start : Run → ℕ
Run-start waiting = 0
Run-start (started s) = s

-- "Give each boom's starting tick in list order."
unfoldable pub start_ticks : List Boom → List ℕ
start_ticks booms = map Run-start (before booms (all_ticks booms))

-- "up to 8 booms"; "a run length of 1 to 1,000 ticks"
abbrev pub max_booms : ℕ
max_booms = 8

abbrev pub max_ticks : ℕ
max_ticks = 1000

abbrev pub Boom-bad_length : Boom → Bool
Boom-bad_length b = eqb b.ticks 0 || ltb max_ticks b.ticks

abbrev pub some_bad_length : List Boom → Bool
some_bad_length booms = some_below (length booms) (λ i. Boom-bad_length (boom_at booms i))

-- "6 and 7, which follow cover by cover in list order": the first number that is not 0
unfoldable pub first_box_refusal : List Boom → ℕ
first_box_refusal [] = 0
first_box_refusal (b ∷ booms) = let n = Bounds3f-refusal b.box in cond (eqb n 0) (first_box_refusal booms) n

-- "A list of none or more than 8, or a run length outside 1 to 1,000, is 22, judged before 6 and 7"; 0 is none
unfoldable pub day_refusal : List Boom → ℕ
day_refusal booms =
    cond (eqb (length booms) 0 || ltb max_booms (length booms) || some_bad_length booms) 22 (first_box_refusal booms)
