-- What the code of the query keeps while it works: masks of the windows so far. What the code does: no promise cites it.
use Rattle.std.specs.Prelude.{ℕ, ◌+◌, ◌-◌, ◌^◌, ◌<◌, ◌≡◌, Bool, cond, List, [], ◌∷◌, ◌++◌, map, eqb, length, replicate, Float}
use Rattle.bounds_query.specs.matrix4x4.Rows.{Rows}
use Rattle.bounds_query.specs.bounds3.declared.Bounds3f.{Bounds3f}
use Rattle.reached_rows.specs.motion_chain.Chain.{stage}
use Rattle.reached_rows.specs.chain_rows.Kept.{Moves-chain}
use Rattle.reached_rows.specs.bounds_answers.UnionAll.{Each}
use Rattle.window_times.specs.declared.Window.{Window}
use Rattle.reached_rows.specs.window_meetings.Windows.{windows_of}
use Rattle.reach_window.specs.reach_rows.Named.{max_rows}
use Rattle.reach_window.specs.reach_laws.Reach.{named, mask_of, row_mask}
use Rattle.reach_window.specs.Named.{Moves-window_refusal}
use Rattle.reach_kept.specs.declared.Found.{Found}

-- Digit k added to a mask below 2^k.
unfoldable pub added_mask : ℕ → ℕ → Bool → ℕ
added_mask k mask named = cond named (mask + 2 ^ k) mask

unfoldable pub added_masks : ℕ → List ℕ → List Bool → List ℕ
added_masks k [] names = []
added_masks k (m ∷ masks) [] = m ∷ masks
added_masks k (m ∷ masks) (named ∷ names) = added_mask k m named ∷ added_masks k masks names

-- Each mask is below 2^k.
pub record Below (k : ℕ) (masks : List ℕ) : Type 0 where
  pub each : Each (λ m. m < 2 ^ k) masks

-- The masks of all windows, or the number of the first that is refused.
pub record Found-Is (moves : List Rows) (boxes : List Bounds3f) (depth : ℕ) (ticks : List Float) (rows : List Bounds3f) (found : Found) : Type 0 where
  pub number : found.refusal ≡ stage (λ w. Moves-window_refusal moves boxes depth w rows) (windows_of ticks)
  pub masks : found.refusal ≡ 0 → found.masks ≡ map (row_mask (Moves-chain moves) boxes depth ticks) rows ++ replicate (max_rows - length rows) 0
