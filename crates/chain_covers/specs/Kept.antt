-- The set query of a kept chain, `Moves-covers`, and what it leaves in the lent places, one for a box, and in that of the union. Definitions only.
use Rattle.std.specs.Prelude.{ℕ, ◌-◌, cond, List, ◌++◌, map, eqb, length, replicate, Float}
use Rattle.lent_arrays.specs.matrix4x4.Rows.{Rows, positive_zero}
use Rattle.bounds3.specs.List.{Bounds3f-list, Bounds3f-of_list}
use Rattle.chain_fronts.specs.chain_rows.Kept.{Moves-chain}
use Rattle.box_set.specs.Set.{max_boxes, SetAnswer, covered, refused, Chain-covers}

-- No moves are no chain: 12.
unfoldable pub Moves-covers : List Rows → List (List Float) → ℕ → SetAnswer
Moves-covers rows boxes depth = cond (eqb (length rows) 0) (refused 12) (Chain-covers (Moves-chain rows) (map Bounds3f-of_list boxes) depth)

-- A place of its own for each cover, in order; the unused ones are +0. A refusal leaves all as it was.
abbrev pub SetAnswer-covers_left : SetAnswer → List (List Float) → List (List Float)
SetAnswer-covers_left (covered covers u) old = map Bounds3f-list covers ++ replicate (max_boxes - length covers) (replicate 6 positive_zero)
SetAnswer-covers_left (refused n) old = old

abbrev pub SetAnswer-union_left : SetAnswer → List Float → List Float
SetAnswer-union_left (covered covers u) old = Bounds3f-list u
SetAnswer-union_left (refused n) old = old
