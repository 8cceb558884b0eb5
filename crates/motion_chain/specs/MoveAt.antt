-- Which move of a chain a time belongs to, `MoveAt`, and that its place does not fall where the time does not, `MoveIndex`:
-- the statements of `move_at` and `move-index`.
use Rattle.std.specs.Prelude.{ℕ, suc, ◌≤◌, ◌<◌, ◌≡◌, not, cond, List, [], ◌∷◌, T, length, get_or, Float}
use Rattle.std.specs.Float.Ieee.{le}
use Rattle.bounds_answers.specs.rounding.Order.{◌≼◌}
use Rattle.bounds_answers.specs.animated_transform.declared.AnimatedTransform.{AnimatedTransform}
use Rattle.motion_chain.specs.Chain.{Chain, Chain-moves, Chain-move_at}
use Rattle.motion_chain.specs.Built.{Each}

-- The last of m and the moves after it.
unfoldable pub last_from : AnimatedTransform → List AnimatedTransform → AnimatedTransform
last_from m [] = m
last_from m (next ∷ moves) = last_from next moves

abbrev pub Chain-last : Chain → AnimatedTransform
Chain-last c = last_from c.first c.rest

-- The place of the move that a time belongs to, among m and the moves after it, from 0.
unfoldable pub index_from : AnimatedTransform → List AnimatedTransform → Float → ℕ
index_from m [] time = 0
index_from m (next ∷ moves) time = cond (le time m.end_time) 0 (suc (index_from next moves time))

abbrev pub Chain-index_at : Chain → Float → ℕ
Chain-index_at c time = index_from c.first c.rest time

-- Of a built chain, at one time: up to the end time of the first move it is the first; above the start time of any and up to its end time it is that move;
-- above the start time of the last it is the last.
pub record MoveAt (c : Chain) (time : Float) : Type 0 where
  pub first : T (le time c.first.end_time) → Chain-move_at c time ≡ c.first
  pub inner : Each (λ m. T (not (le time m.start_time)) → T (le time m.end_time) → Chain-move_at c time ≡ m) (Chain-moves c)
  pub last : T (not (le time (Chain-last c).start_time)) → Chain-move_at c time ≡ Chain-last c

-- Of any chain: what "a list of times that never falls" meets are its moves in rising order.
pub record MoveIndex (c : Chain) : Type 0 where
  pub below : (time : Float) → Chain-index_at c time < length (Chain-moves c)
  pub move : (time : Float) → Chain-move_at c time ≡ get_or (Chain-moves c) (Chain-index_at c time) c.first
  pub rises : (t u : Float) → t ≼ u → Chain-index_at c t ≤ Chain-index_at c u
