-- Windows of times: how their ticks are judged, and which moves and poses of a chain a window asks for, by their times. Definitions only.
-- Quotations are of document 02, "Two booms over one bay".
use Rattle.std.specs.Prelude.{ℕ, Bool, ◌&&◌, ◌||◌, cond, Float}
use Rattle.std.specs.Float.Ieee.{lt, le}
use Rattle.window_times.specs.declared.Window.{Window}

-- "Ticks that are NaN .. or not rising are 21": a NaN is below nothing
abbrev pub Window-refusal : Window → ℕ
Window-refusal w = cond (lt w.earlier w.later) 0 21

-- a "time lies in the window, both ticks included"
abbrev pub Window-contains : Window → Float → Bool
Window-contains w time = le w.earlier time && le time w.later

-- a move "that starts before the later tick and ends after the earlier one"
abbrev pub Window-overlaps : Window → Float → Float → Bool
Window-overlaps w start end = lt start w.later && lt w.earlier end

-- a "pose whose time lies in the window", or "the first .. pose where the window reaches outside the chain's times"
abbrev pub Window-asks_first : Window → Float → Bool
Window-asks_first w time = Window-contains w time || lt w.earlier time

-- a "pose whose time lies in the window", or the "last pose where the window reaches outside": the pose at the end of a move, of the last one where `last`
abbrev pub Window-asks_end : Window → Bool → Float → Bool
Window-asks_end w last time = Window-contains w time || (last && lt time w.later)

-- "a move .. to which a time of the window belongs", by the chain's rule: times up to the start are an earlier move's,
-- unless the move is the first, and times after the end a later one's, unless it is the last
abbrev pub Window-belongs : Window → Bool → Bool → Float → Float → Bool
Window-belongs w first last start end = (first || lt start w.later) && (last || le w.earlier end)
