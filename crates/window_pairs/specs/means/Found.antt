-- What the code of a list of windows keeps while it works: the windows found so far, in 63 places. What the code does: no promise cites it.
use Rattle.std.specs.Prelude.{ℕ, ◌+◌, ◌-◌, ◌≡◌, Bool, cond, List, ◌++◌, length, get_or, replicate, set, Float}
use Rattle.std.specs.Float.{nan}
use Rattle.window_times.specs.declared.Window.{Window}
use Rattle.window_meetings.specs.Windows.{WindowsAnswer, listed, refused, place_count}
use Rattle.window_pairs.specs.declared.Found.{Found}

-- the window whose later tick has the place i
abbrev pub window_at : List Float → ℕ → Window
window_at ticks i = record { earlier = get_or ticks (i - 1) nan; later = get_or ticks i nan }

abbrev pub Found-none : ℕ → Found
Found-none refusal = record { places = replicate place_count 0; count = 0; refusal = refusal }

-- One more window, where its covers meet.
unfoldable pub Found-add : Found → Bool → ℕ → Found
Found-add f meets k = cond meets (record { places = set f.places f.count k; count = f.count + 1; refusal = 0 }) f

-- The windows ks in the first places, 0 in the others.
pub record Found-Holds (ks : List ℕ) (f : Found) : Type 0 where
  pub places : f.places ≡ ks ++ replicate (place_count - length ks) 0
  pub count : f.count ≡ length ks
  pub refusal : f.refusal ≡ 0

-- What was found is the answer.
abbrev pub Found-Is : WindowsAnswer → Found → Type 0
Found-Is (listed ks) f = Found-Holds ks f
Found-Is (refused n) f = (f.refusal ≡ n) × (n ≡ 0 → ⊥)
