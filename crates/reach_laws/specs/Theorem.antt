-- Which rows, and when. In a window in which a row is not named no padded point of the boom is in it, `ReachDry`; where a row's mask is 0 none is at
-- any time, of ticks from -infinity to +infinity, `ReachDryAlways`. A greater depth sets no bit, `ReachFiner`. A row that is named meets a cover, `ReachCovered`.
--
--   BuiltChain c                   c is what building gives, unrefused                                             crates/motion_chain/specs/Built.antt
--   BuiltMoves c                   so it is, or c is a move built by itself                                        crates/chain_window/specs/Theorem.antt
--   Chain-reach_refusal             the query's number, 0 is none                                                   crates/reach_laws/specs/Reach.antt
--   row_mask c boxes d ticks row    the row's mask, `bit k` of it its digit k                                       crates/reach_laws/specs/Reach.antt
--   tick_window ticks k             window k between neighbouring ticks                                             crates/window_meetings/specs/Theorem.antt
--   reached c time p               the points from the moved point less its pad to it plus its pad                 crates/window_meetings/specs/Theorem.antt
use Rattle.std.specs.Prelude.{ℕ, suc, ◌+◌, ◌≤◌, ◌<◌, ◌≡◌, true, false, not, T, length, get_or, Float}
use mathlib.Core.List.{List, [], ◌∷◌, Memᴰ}
use Rattle.std.specs.Float.{nan, inf}
use Rattle.std.specs.Float.Ieee.{is_nan}
use Rattle.reach_rows.specs.bounds3.declared.Point3f.{Point3f}
use Rattle.reach_rows.specs.bounds3.declared.Bounds3f.{Bounds3f}
use Rattle.reach_rows.specs.bounds3.Inside.{Inside}
use Rattle.reach_rows.specs.transform.Answer.{OneOf, PointAnswer-refusal, BoundsAnswer-bounds}
use Rattle.reach_rows.specs.bounds_overlap.Meets.{Bounds3f-meets}
use Rattle.window_meetings.specs.bounds_query.Query.{max_depth}
use Rattle.window_meetings.specs.motion_chain.Chain.{Chain, Chain-transform_point}
use Rattle.window_meetings.specs.motion_chain.Built.{BuiltChain}
use Rattle.window_meetings.specs.chain_window.Cover.{Chain-window_cover}
use Rattle.window_meetings.specs.chain_window.Theorem.{InWindow, BuiltMoves}
use Rattle.window_meetings.specs.Theorem.{reached, tick_window}
use Rattle.reach_laws.specs.Reach.{bit, Chain-reach_refusal, row_mask}

-- The boom's point p is answered, and none of the points at which it may be is inside the row.
pub record Dry (c : Chain) (time : Float) (p : Point3f) (row : Bounds3f) : Type 0 where
  pub answered : PointAnswer-refusal (Chain-transform_point c time p) ≡ 0
  pub apart : (q : Point3f) → Inside (reached c time p) q → Inside row q → ⊥

-- "At every time of window w, both ticks included, but NaN, and for every point p of every box"
abbrev pub ReachDry : Chain → List Bounds3f → ℕ → List Float → List Bounds3f → Type 0
ReachDry c boxes d ticks rows =
    (row b : Bounds3f) (k : ℕ) (time : Float) (p : Point3f)
    → BuiltMoves c → Chain-reach_refusal c boxes d ticks rows ≡ 0 → Memᴰ row rows → Memᴰ b boxes
    → k + 1 < length ticks → bit k (row_mask c boxes d ticks row) ≡ 0 → InWindow (tick_window ticks k) time → Inside b p
    → Dry c time p row

-- The last of the ticks.
abbrev pub last_tick : List Float → Float
last_tick [] = nan
last_tick (t ∷ []) = t
last_tick (t ∷ u ∷ ticks) = last_tick (u ∷ ticks)

-- "Over all windows of ticks from -infinity to +infinity: in a row that isn't on the map there is no such point at any time."
abbrev pub ReachDryAlways : Chain → List Bounds3f → ℕ → List Float → List Bounds3f → Type 0
ReachDryAlways c boxes d ticks rows =
    (row b : Bounds3f) (time : Float) (p : Point3f)
    → BuiltMoves c → Chain-reach_refusal c boxes d ticks rows ≡ 0 → Memᴰ row rows → Memᴰ b boxes
    → get_or ticks 0 nan ≡ inf true → last_tick ticks ≡ inf false → row_mask c boxes d ticks row ≡ 0
    → T (not (is_nan time)) → Inside b p
    → Dry c time p row

-- "Which numbers it can give": a kept chain's query gives 12 too, of no moves.
abbrev pub ReachNumbers : Chain → List Bounds3f → ℕ → List Float → List Bounds3f → Type 0
ReachNumbers c boxes d ticks rows = OneOf (Chain-reach_refusal c boxes d ticks rows) (0 ∷ 5 ∷ 6 ∷ 7 ∷ 8 ∷ 10 ∷ 14 ∷ 21 ∷ [])

-- "Where a depth is accepted, each greater depth up to 12 is, and each mask is a part of the mask before (bit by bit)."
pub record Fewer (c : Chain) (boxes : List Bounds3f) (d n : ℕ) (ticks : List Float) (rows : List Bounds3f) : Type 0 where
  pub accepted : Chain-reach_refusal c boxes (d + n) ticks rows ≡ 0
  pub bits : (row : Bounds3f) → Memᴰ row rows → (k : ℕ) → bit k (row_mask c boxes (d + n) ticks row) ≤ bit k (row_mask c boxes d ticks row)

abbrev pub ReachFiner : Chain → List Bounds3f → List Float → List Bounds3f → Type 0
ReachFiner c boxes ticks rows =
    (d n : ℕ)
    → BuiltChain c → d + n ≤ max_depth → Chain-reach_refusal c boxes d ticks rows ≡ 0
    → Fewer c boxes d n ticks rows

-- "A row that is named in a window meets request 13's cover of that window for one of the boxes."
pub record CoverMeets (c : Chain) (boxes : List Bounds3f) (d : ℕ) (ticks : List Float) (k : ℕ) (row : Bounds3f) : Type 0 where
  pub box : Bounds3f
  pub member : Memᴰ box boxes
  pub meets : Bounds3f-meets (BoundsAnswer-bounds (Chain-window_cover c box d (tick_window ticks k))) row ≡ true

abbrev pub ReachCovered : Chain → List Bounds3f → ℕ → List Float → List Bounds3f → Type 0
ReachCovered c boxes d ticks rows =
    (row : Bounds3f) (k : ℕ)
    → Chain-reach_refusal c boxes d ticks rows ≡ 0 → Memᴰ row rows
    → k + 1 < length ticks → bit k (row_mask c boxes d ticks row) ≡ 1
    → CoverMeets c boxes d ticks k row
