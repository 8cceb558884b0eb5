-- Which rows, and when, over a chain as its caller keeps it: `Moves-reach_refusal`, `Moves-reach_left`. In the words of who keeps it, of the masks that are left:
-- dry where not named, `KeptReachDry`, at any time where a mask is 0, `KeptReachDryAlways`; a greater depth sets no bit, `KeptReachFiner`; a row that is named
-- meets a window's cover, `KeptReachCovered`. Definitions only.
use Rattle.std.specs.Prelude.{ℕ, ◌+◌, ◌≤◌, ◌<◌, ◌≡◌, true, false, not, cond, T, eqb, length, get_or, Float}
use mathlib.Core.List.{List, map, Memᴰ}
use Rattle.std.specs.Float.{nan, inf}
use Rattle.std.specs.Float.Ieee.{is_nan}
use Rattle.bounds_query.specs.matrix4x4.Rows.{Rows}
use Rattle.bounds_query.specs.bounds3.declared.Point3f.{Point3f}
use Rattle.bounds_query.specs.bounds3.declared.Bounds3f.{Bounds3f}
use Rattle.bounds_query.specs.bounds3.Inside.{Inside}
use Rattle.bounds_query.specs.transform.Answer.{BoundsAnswer-bounds}
use Rattle.reached_rows.specs.bounds_overlap.Meets.{Bounds3f-meets}
use Rattle.bounds_query.specs.Query.{max_depth}
use Rattle.reached_rows.specs.motion_chain.Chain.{Chain}
use Rattle.reached_rows.specs.chain_rows.Kept.{Moves-chain}
use Rattle.reached_rows.specs.chain_rows.Theorem.{Moves-Holds, Moves-Built}
use Rattle.window_times.specs.declared.Window.{Window}
use Rattle.reached_rows.specs.chain_window.Theorem.{InWindow}
use Rattle.reached_rows.specs.window_meetings.Theorem.{tick_window}
use Rattle.reached_rows.specs.window_cover.Kept.{Moves-window_cover}
use Rattle.lent_laws.specs.Front.{in_front}
use Rattle.reached_rows.specs.Theorem.{row_at, RowApart}
use Rattle.reach_window.specs.reach_laws.Reach.{bit, Chain-reach_refusal, Chain-reach}
use Rattle.reach_window.specs.reach_laws.Theorem.{last_tick}

-- as `Chain-reach_refusal`; no moves are no chain: 12
unfoldable pub Moves-reach_refusal : List Rows → List Bounds3f → ℕ → List Float → List Bounds3f → ℕ
Moves-reach_refusal moves boxes depth ticks rows = cond (eqb (length moves) 0) 12 (Chain-reach_refusal (Moves-chain moves) boxes depth ticks rows)

-- "one mask a row": "A refusal leaves the lent masks as they came; places behind the rows' stay as they came too."
unfoldable pub Moves-reach_left : List Rows → List Bounds3f → ℕ → List Float → List Bounds3f → List ℕ → List ℕ
Moves-reach_left moves boxes depth ticks rows old =
    cond (eqb (Moves-reach_refusal moves boxes depth ticks rows) 0) (in_front (Chain-reach (Moves-chain moves) boxes depth ticks rows) old) old

-- The mask of the row at a place, as it is left.
abbrev pub mask_at : List ℕ → ℕ → ℕ
mask_at masks i = get_or masks i 0

-- Where the rows hold what building has left: in a window k in which row i isn't named, at any time of it, ticks included, every point of every box, asked of the
-- same rows, is answered, and no point at which it may be, pad and all, is in the row.
abbrev pub KeptReachDry : List Rows → List Bounds3f → List Float → List Bounds3f → List ℕ → Type 0
KeptReachDry moves boxes ticks rows masks =
    (i k : ℕ) (b : Bounds3f) (time : Float) (p : Point3f)
    → Moves-Built moves → i < length rows → Memᴰ b boxes → k + 1 < length ticks → bit k (mask_at masks i) ≡ 0
    → InWindow (tick_window ticks k) time → Inside b p
    → RowApart moves time p (row_at rows i)

-- And of ticks from -infinity to +infinity: where the row's mask is 0, so at any time but NaN.
abbrev pub KeptReachDryAlways : List Rows → List Bounds3f → List Float → List Bounds3f → List ℕ → Type 0
KeptReachDryAlways moves boxes ticks rows masks =
    (i : ℕ) (b : Bounds3f) (time : Float) (p : Point3f)
    → Moves-Built moves → i < length rows → Memᴰ b boxes
    → get_or ticks 0 nan ≡ inf true → last_tick ticks ≡ inf false → mask_at masks i ≡ 0
    → T (not (is_nan time)) → Inside b p
    → RowApart moves time p (row_at rows i)

-- Where the rows hold a built chain: the same query at each greater depth up to 12 is accepted too, and each of its masks is a part of that row's mask.
pub record Moves-Fewer (moves : List Rows) (boxes : List Bounds3f) (finer : ℕ) (ticks : List Float) (rows : List Bounds3f) (masks : List ℕ) : Type 0 where
  pub accepted : Moves-reach_refusal moves boxes finer ticks rows ≡ 0
  pub bits : (i k : ℕ) → i < length rows → bit k (mask_at (Chain-reach (Moves-chain moves) boxes finer ticks rows) i) ≤ bit k (mask_at masks i)

abbrev pub KeptReachFiner : List Rows → List Bounds3f → ℕ → List Float → List Bounds3f → List ℕ → Type 0
KeptReachFiner moves boxes depth ticks rows masks =
    (c : Chain) (finer : ℕ)
    → Moves-Holds moves c → depth ≤ finer → finer ≤ max_depth
    → Moves-Fewer moves boxes finer ticks rows masks

-- Of any rows: a row that is named in window k meets that window's cover of one of the boxes.
pub record Moves-CoverMeets (moves : List Rows) (boxes : List Bounds3f) (depth : ℕ) (w : Window) (row : Bounds3f) : Type 0 where
  pub box : Bounds3f
  pub member : Memᴰ box boxes
  pub meets : Bounds3f-meets (BoundsAnswer-bounds (Moves-window_cover moves box depth w)) row ≡ true

abbrev pub KeptReachCovered : List Rows → List Bounds3f → ℕ → List Float → List Bounds3f → List ℕ → Type 0
KeptReachCovered moves boxes depth ticks rows masks =
    (i k : ℕ)
    → i < length rows → k + 1 < length ticks → bit k (mask_at masks i) ≡ 1
    → Moves-CoverMeets moves boxes depth (tick_window ticks k) (row_at rows i)
