-- Which rows a boom of 1 to 16 boxes reaches, and in which windows: one mask a row. Definitions only. Quotations are of docs/SPECIFICATION.md, "Added: reach".
use Rattle.std.specs.Prelude.{ℕ, zero, suc, ◌+◌, ◌*◌, ◌/◌, ◌%◌, Bool, false, ◌||◌, cond, List, [], ◌∷◌, ◌++◌, map, eqb, ltb, length, drop, Float}
use Rattle.window_meetings.specs.refusal.First.{first_refusal}
use Rattle.reach_rows.specs.bounds3.declared.Bounds3f.{Bounds3f}
use Rattle.reach_rows.specs.transform.declared.BoundsAnswer.{BoundsAnswer}
use Rattle.reach_rows.specs.transform.declared.BoundsAnswer.TheVariants.{Bounds, Refused}
use Rattle.reach_rows.specs.transform.Answer.{BoundsAnswer-refusal}
use Rattle.reach_rows.specs.bounds_overlap.Meets.{Bounds3f-meets}
use Rattle.window_meetings.specs.bounds_query.Query.{Bounds3f-refusal, max_depth}
use Rattle.window_meetings.specs.motion_chain.Chain.{Chain, first_number, stage}
use Rattle.window_meetings.specs.tick_list.Ticks.{Ticks-refusal}
use Rattle.window_meetings.specs.window_times.declared.Window.{Window}
use Rattle.window_meetings.specs.chain_window.Cover.{window_boxes, Chain-window_cover}
use Rattle.window_meetings.specs.Windows.{windows_of}
use Rattle.reach_rows.specs.Named.{some, max_rows}

-- ---- a row in a window

-- "meets it on all three axes, touching included"; what is refused meets nothing
abbrev pub meets_row : Bounds3f → BoundsAnswer → Bool
meets_row row (Bounds box) = Bounds3f-meets box row
meets_row row (Refused n) = false

-- "when one of these boxes, for one of the boom's boxes, meets it"
unfoldable pub named : Chain → List Bounds3f → ℕ → Window → Bounds3f → Bool
named c boxes d w row = some (λ b. some (meets_row row) (window_boxes c b d w)) boxes

-- ---- masks

-- Binary digit k of a number, counted from 0.
unfoldable pub bit : ℕ → ℕ → ℕ
bit zero n = n % 2
bit (suc k) n = bit k (n / 2)

-- "bit w is 1 exactly when the row is named in window w, counted from 0"
unfoldable pub mask_of : (Window → Bool) → List Window → ℕ
mask_of test [] = 0
mask_of test (w ∷ ws) = mask_of test ws * 2 + cond (test w) 1 0

-- ---- the query

abbrev pub max_boxes : ℕ
max_boxes = 16

-- "14 no boxes or more than 16; 14 no rows or more than 256"
unfoldable pub count_refusal : ℕ → ℕ → ℕ
count_refusal most n = cond (eqb n 0 || ltb most n) 14 0

-- "14 ..; 14 ..; 21 the ticks; 6 and 7 of the boxes, in order; 6 and 7 of the rows, in order; 8"
unfoldable pub arguments_refusal : List Bounds3f → ℕ → List Float → List Bounds3f → ℕ
arguments_refusal boxes d ticks rows =
    first_number (
    count_refusal max_boxes (length boxes)
    ∷ count_refusal max_rows (length rows)
    ∷ Ticks-refusal ticks
    ∷ stage Bounds3f-refusal boxes
    ∷ stage Bounds3f-refusal rows
    ∷ cond (ltb max_depth d) 8 0
    ∷ [])

-- "window by window, rising, and in a window box by box: the number with which that window's cover of that box is refused"
unfoldable pub covers_refusal : Chain → List Bounds3f → ℕ → List Window → ℕ
covers_refusal c boxes d ws = stage (λ w. stage (λ b. BoundsAnswer-refusal (Chain-window_cover c b d w)) boxes) ws

unfoldable pub Chain-reach_refusal : Chain → List Bounds3f → ℕ → List Float → List Bounds3f → ℕ
Chain-reach_refusal c boxes d ticks rows = first_refusal (arguments_refusal boxes d ticks rows) (covers_refusal c boxes d (windows_of ticks))

-- "one mask a row"
unfoldable pub row_mask : Chain → List Bounds3f → ℕ → List Float → Bounds3f → ℕ
row_mask c boxes d ticks row = mask_of (λ w. named c boxes d w row) (windows_of ticks)

-- the masks, none where the query is refused
unfoldable pub Chain-reach : Chain → List Bounds3f → ℕ → List Float → List Bounds3f → List ℕ
Chain-reach c boxes d ticks rows = cond (eqb (Chain-reach_refusal c boxes d ticks rows) 0) (map (row_mask c boxes d ticks) rows) []

-- "A refusal leaves the lent masks as they came; places behind the rows' stay as they came too."
unfoldable pub Chain-reach_left : Chain → List Bounds3f → ℕ → List Float → List Bounds3f → List ℕ → List ℕ
Chain-reach_left c boxes d ticks rows old = let masks = Chain-reach c boxes d ticks rows in masks ++ drop (length masks) old
