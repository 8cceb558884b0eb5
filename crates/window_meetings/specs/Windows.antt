-- The windows between neighbouring ticks in which the covers of two chains meet. Definitions only. Quotations are of document 02, "Two booms over one bay".
-- 21 of the ticks, then 6 and 7 of the first box, 6 and 7 of the second, 8 of the depth, are judged before any work;
-- then the first refusal met stands, "the earlier window first, then the first chain". Windows count from 0.
use Rattle.std.specs.Prelude.{ℕ, suc, ◌-◌, Bool, cond, List, [], ◌∷◌, ◌++◌, eqb, ltb, length, replicate, Float}
use Rattle.bounds_meeting.specs.bounds3.declared.Bounds3f.{Bounds3f}
use Rattle.bounds_meeting.specs.transform.declared.BoundsAnswer.{BoundsAnswer}
use Rattle.chain_window.specs.bounds_query.Query.{Bounds3f-refusal, max_depth}
use Rattle.bounds_meeting.specs.Meeting.{Meeting-of}
use Rattle.chain_window.specs.motion_chain.Chain.{first_number, Chain}
use Rattle.tick_list.specs.Ticks.{Ticks-refusal}
use Rattle.chain_window.specs.window_times.declared.Window.{Window}
use Rattle.chain_window.specs.Cover.{Chain-window_cover}

-- ---- the arguments

-- "each window between neighbouring ticks", rising
unfoldable pub windows_of : List Float → List Window
windows_of [] = []
windows_of (t ∷ []) = []
windows_of (t ∷ u ∷ ticks) = record { earlier = t; later = u } ∷ windows_of (u ∷ ticks)

-- "then 6 and 7 for the first box, 6 and 7 for the second, and 8"
unfoldable pub windows_refusal : Bounds3f → Bounds3f → ℕ → List Float → ℕ
windows_refusal b b' d ticks =
    first_number (Ticks-refusal ticks ∷ Bounds3f-refusal b ∷ Bounds3f-refusal b' ∷ cond (ltb max_depth d) 8 0 ∷ [])

-- ---- the work

pub data WindowsAnswer : Type 0 where
  listed : List ℕ → WindowsAnswer
  refused : ℕ → WindowsAnswer

-- document 01's number and values of each case: 0 where nothing is refused, and no windows where something is
abbrev pub WindowsAnswer-refusal : WindowsAnswer → ℕ
WindowsAnswer-refusal (listed ks) = 0
WindowsAnswer-refusal (refused n) = n

abbrev pub WindowsAnswer-windows : WindowsAnswer → List ℕ
WindowsAnswer-windows (listed ks) = ks
WindowsAnswer-windows (refused n) = []

-- Window k, where it is listed, before the windows after it.
unfoldable pub WindowsAnswer-cons : Bool → ℕ → WindowsAnswer → WindowsAnswer
WindowsAnswer-cons meets k (listed ks) = listed (cond meets (k ∷ ks) ks)
WindowsAnswer-cons meets k (refused n) = refused n

-- "List the windows, rising, in which the two boxes meet": those from window k on, where cover and cover' are the two chains' covers of a window
unfoldable pub windows_from : (Window → BoundsAnswer) → (Window → BoundsAnswer) → ℕ → List Window → WindowsAnswer
windows_from cover cover' k [] = listed []
windows_from cover cover' k (w ∷ ws) =
    let m = Meeting-of (cover w) (cover' w) in
    cond (eqb m.refusal 0) (WindowsAnswer-cons m.meets k (windows_from cover cover' (suc k) ws)) (refused m.refusal)

-- "Give two chains, a box for each, one depth and 2 to 64 tick times that rise strictly."
unfoldable pub Chain-windows : Chain → Chain → Bounds3f → Bounds3f → ℕ → List Float → WindowsAnswer
Chain-windows c c' b b' d ticks =
    let n = windows_refusal b b' d ticks in
    cond (eqb n 0) (windows_from (Chain-window_cover c b d) (Chain-window_cover c' b' d) 0 (windows_of ticks)) (refused n)

-- ---- the lent places

-- 64 ticks have 63 windows
abbrev pub place_count : ℕ
place_count = 63

-- the windows in the first places, and 0 in unused ones; a refusal leaves `old`, what stood in them
unfoldable pub WindowsAnswer-left : WindowsAnswer → List ℕ → List ℕ
WindowsAnswer-left (listed ks) old = ks ++ replicate (place_count - length ks) 0
WindowsAnswer-left (refused n) old = old
