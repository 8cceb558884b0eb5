-- What is promised of a day of booms and their starting ticks, in words of the ticks alone. Quotations are of document 02, "A day of booms".
use Rattle.std.specs.Prelude.{ℕ, suc, ◌+◌, ◌≤◌, ◌<◌, ◌≡◌, false, cond, List, eqb, length, get_or}
use Rattle.bounds_overlap.specs.Meets.{Bounds3f-meets}
use Rattle.run_schedule.specs.Day.{Boom, waiting, started, sum_below, boom_at, before}

module _ (booms : List Boom) (starts : List ℕ) where
  abbrev pub start_at : ℕ → ℕ
  start_at i = get_or starts i 0

  -- The boom at a place runs in tick t: from its starting tick on, until its run is over.
  abbrev pub Running : ℕ → ℕ → Type 0
  Running t i = (start_at i ≤ t) × (t < start_at i + (boom_at booms i).ticks)

  -- The sum of the other booms' run lengths.
  abbrev pub others_ticks : ℕ → ℕ
  others_ticks i = sum_below (length booms) (λ j. cond (eqb j i) 0 (boom_at booms j).ticks)

  pub record DayKeeps : Type 0 where
    -- "No two running booms ever have meeting boxes"
    pub never-meet : (t i j : ℕ) → i < length booms → j < length booms → (i ≡ j → ⊥)
        → Running t i → Running t j → Bounds3f-meets (boom_at booms i).box (boom_at booms j).box ≡ false
    -- each boom starts, in the tick that is given: it waits before it, and is started in it
    pub each-starts : (i : ℕ) → i < length booms
        → (get_or (before booms (start_at i)) i waiting ≡ waiting) × (get_or (before booms (suc (start_at i))) i waiting ≡ started (start_at i))
    -- "a boom starts no later than the sum of the other booms' run lengths"
    pub in-time : (i : ℕ) → i < length booms → start_at i ≤ others_ticks i
