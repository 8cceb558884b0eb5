-- The rows that a boom reaches in one window of a kept chain, and the number with which the window is refused. Definitions only.
use Rattle.std.specs.Prelude.{ℕ, ◌-◌, Bool, false, cond, List, [], ◌∷◌, ◌++◌, map, eqb, ltb, length, replicate}
use Rattle.transform.specs.matrix4x4.Rows.{Rows}
use Rattle.transform.specs.bounds3.declared.Bounds3f.{Bounds3f}
use Rattle.transform.specs.Answer.{BoundsAnswer-refusal}
use Rattle.motion_piece.specs.bounds_query.Query.{cover_refusal}
use Rattle.reach_laws.specs.motion_chain.Chain.{first_number, stage}
use Rattle.window_cover.specs.chain_rows.Kept.{Moves-chain}
use Rattle.window_times.specs.declared.Window.{Window}
use Rattle.window_times.specs.Window.{Window-refusal}
use Rattle.reach_laws.specs.chain_window.Cover.{Chain-window_cover}
use Rattle.reach_rows.specs.Named.{max_rows}
use Rattle.reach_laws.specs.Reach.{named, max_boxes, count_refusal}

-- The number of the first box whose cover of the window is refused.
abbrev pub Moves-cover_number : List Rows → List Bounds3f → ℕ → Window → ℕ
Moves-cover_number moves boxes depth w = stage (λ b. BoundsAnswer-refusal (Chain-window_cover (Moves-chain moves) b depth w)) boxes

-- 14 of the boxes and of too many rows, 12 of no moves, 21 of the window, 6, 7 or 8 of the boxes; then that number.
unfoldable pub Moves-window_refusal : List Rows → List Bounds3f → ℕ → Window → List Bounds3f → ℕ
Moves-window_refusal moves boxes depth w rows =
    first_number (
    count_refusal max_boxes (length boxes)
    ∷ cond (ltb max_rows (length rows)) 14 0
    ∷ cond (eqb (length moves) 0) 12 0
    ∷ Window-refusal w
    ∷ stage (λ b. cover_refusal b depth) boxes
    ∷ Moves-cover_number moves boxes depth w
    ∷ [])

-- Which rows are named, false behind them.
abbrev pub window_names : List Rows → List Bounds3f → ℕ → Window → List Bounds3f → List Bool
window_names moves boxes depth w rows = map (named (Moves-chain moves) boxes depth w) rows ++ replicate (max_rows - length rows) false

-- None where the window is refused.
unfoldable pub Moves-window_names : List Rows → List Bounds3f → ℕ → Window → List Bounds3f → List Bool
Moves-window_names moves boxes depth w rows =
    cond (eqb (Moves-window_refusal moves boxes depth w rows) 0) (window_names moves boxes depth w rows) (replicate max_rows false)
