-- The cover of a window of a chain as its caller keeps it, `Moves-window_cover`; in the words of who keeps it its guarantee,
-- `KeptWindowContainsMotion`, and that a finer one is never a wider one, `KeptWindowFiner`. Definitions only.
use Rattle.std.specs.Prelude.{ℕ, ◌≤◌, cond, List, eqb, length, Float}
use Rattle.transform.specs.matrix4x4.Rows.{Rows}
use Rattle.bounds3.specs.declared.Point3f.{Point3f}
use Rattle.bounds3.specs.declared.Bounds3f.{Bounds3f}
use Rattle.bounds3.specs.Inside.{Inside}
use Rattle.transform.specs.declared.BoundsAnswer.{BoundsAnswer}
use Rattle.transform.specs.declared.BoundsAnswer.TheVariants.{Refused}
use Rattle.bounds_query.specs.Query.{max_depth}
use Rattle.motion_piece.specs.motion_cover.Theorem.{MovedInside}
use Rattle.chain_rows.specs.cover_depth.Finer.{Within}
use Rattle.chain_rows.specs.motion_chain.Chain.{Chain}
use Rattle.chain_rows.specs.Kept.{Moves-chain, Moves-transform_point, Moves-pad_at}
use Rattle.chain_rows.specs.Theorem.{Moves-Holds}
use Rattle.window_times.specs.declared.Window.{Window}
use Rattle.chain_window.specs.Cover.{Chain-window_cover}
use Rattle.chain_window.specs.Theorem.{InWindow}

-- as `Chain-window_cover`; no moves are no chain: 12
unfoldable pub Moves-window_cover : List Rows → Bounds3f → ℕ → Window → BoundsAnswer
Moves-window_cover rows b depth w = cond (eqb (length rows) 0) (Refused 12) (Chain-window_cover (Moves-chain rows) b depth w)

-- Where the rows hold a built chain: every point of the box b, asked of the same rows at any time of the window,
-- ticks included, is answered and is inside the box `cover`, by itself and less and plus the pad at that time.
abbrev pub KeptWindowContainsMotion : List Rows → Bounds3f → Window → Bounds3f → Type 0
KeptWindowContainsMotion rows b w cover =
    (c : Chain) (time : Float) (p : Point3f)
    → Moves-Holds rows c → InWindow w time → Inside b p
    → MovedInside cover (Moves-pad_at rows time) (Moves-transform_point rows time p)

-- And the same query at each greater depth up to 12 is accepted too, and its box lies in that cover on every axis.
abbrev pub KeptWindowFiner : List Rows → Bounds3f → ℕ → Window → Bounds3f → Type 0
KeptWindowFiner rows b depth w cover =
    (c : Chain) (finer : ℕ)
    → Moves-Holds rows c → depth ≤ finer → finer ≤ max_depth
    → Within (Moves-window_cover rows b finer w) cover
