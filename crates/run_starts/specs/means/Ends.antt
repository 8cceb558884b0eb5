-- What the code of a day keeps while it works: of each boom the tick in which its run is over, and 0 while it waits. Document 02 knows no such
-- thing, and no promise cites it. `EndsOf` says how it tells a boom's run; the others what the code's steps give. Definitions only.
use Rattle.std.specs.Prelude.{ℕ, ◌+◌, ◌-◌, ◌≤◌, ◌<◌, ◌≡◌, Bool, ◌&&◌, ◌||◌, cond, List, [], eqb, ltb, length, get_or, Float}
use Rattle.bounds_overlap.specs.bounds3.declared.Bounds3f.{Bounds3f}
use Rattle.bounds_overlap.specs.bounds3.List.{Bounds3f-of_list}
use Rattle.bounds_overlap.specs.Meets.{Bounds3f-meets}
use Rattle.run_schedule.specs.Day.{Boom, Run, waiting, started, some_below, boom_at, taken_below, before, all_ticks, max_ticks}

abbrev pub box_at : List (List Float) → ℕ → Bounds3f
box_at boxes i = Bounds3f-of_list (get_or boxes i [])

abbrev pub bad_length_at : List ℕ → ℕ → Bool
bad_length_at lengths i = eqb (get_or lengths i 0) 0 || ltb max_ticks (get_or lengths i 0)

-- No run length of the first `count` is refused.
abbrev pub GoodLengths : ℕ → List ℕ → Type 0
GoodLengths count lengths = (i : ℕ) → i < count → (1 ≤ get_or lengths i 0) × (get_or lengths i 0 ≤ max_ticks)

abbrev pub Run-end : Run → ℕ → ℕ
Run-end waiting ticks = 0
Run-end (started s) ticks = s + ticks

pub record EndsOf (booms : List Boom) (runs : List Run) (ends : List ℕ) : Type 0 where
  pub size : length runs ≡ length booms
  pub end : (i : ℕ) → i < length booms → get_or ends i 0 ≡ Run-end (get_or runs i waiting) (boom_at booms i).ticks

-- At the end of the day.
abbrev pub DayEnds : List Boom → List ℕ → Type 0
DayEnds booms ends = EndsOf booms (before booms (all_ticks booms)) ends

-- Whether the boom at j runs in tick t and its box meets that at i.
abbrev pub runs_and_meets : List (List Float) → List ℕ → ℕ → ℕ → ℕ → Bool
runs_and_meets boxes ends t i j = ltb t (get_or ends j 0) && Bounds3f-meets (box_at boxes i) (box_at boxes j)

-- The end of the run at i, which was `end`, once it was taken in tick t.
unfoldable pub end_taken : List (List Float) → List ℕ → ℕ → ℕ → ℕ → List ℕ → ℕ → ℕ
end_taken boxes lengths count t end ends i = cond (eqb end 0) (cond (some_below count (runs_and_meets boxes ends t i)) 0 (t + get_or lengths i 0)) end

-- The waiting ones are taken in tick t.
abbrev pub Ticks : List Boom → ℕ → List ℕ → List ℕ → Type 0
Ticks booms t old new = (runs : List Run) → EndsOf booms runs old → EndsOf booms (taken_below booms t (length booms) runs) new

-- The last tick of any day: 8 runs of 1,000 ticks.
abbrev pub last_tick : ℕ
last_tick = 8000

-- The end of a run, where it comes after tick t and before the next stop so far.
abbrev pub sooner_stop : ℕ → ℕ → ℕ → ℕ
sooner_stop t end next = cond (ltb t end && ltb end next) end next

-- The first stop after tick t.
pub record NextStop (count : ℕ) (ends : List ℕ) (t next : ℕ) : Type 0 where
  pub before-stops : (i : ℕ) → i < count → t < get_or ends i 0 → next ≤ get_or ends i 0
  pub later : t < last_tick → t < next

-- The starting tick of each boom from the end of its run, and 0 behind them.
pub record StartsOf (count : ℕ) (lengths ends starts : List ℕ) : Type 0 where
  pub size : length starts ≡ 8
  pub start : (i : ℕ) → i < count → get_or starts i 0 ≡ get_or ends i 0 - get_or lengths i 0
  pub unused : (i : ℕ) → count ≤ i → get_or starts i 0 ≡ 0
