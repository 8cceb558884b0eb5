-- The guarantee of a set in the words of who keeps the chain, or a move by itself: `KeptSetContainsMotion`. Definitions only.
use Rattle.std.specs.Prelude.{not, List, map, T, length, take, Float}
use Rattle.std.specs.Float.Ieee.{is_nan}
use Rattle.lent_arrays.specs.matrix4x4.Rows.{Rows}
use Rattle.bounds3.specs.List.{Bounds3f-of_list}
use Rattle.chain_fronts.specs.chain_rows.Kept.{Moves-transform_point, Moves-pad_at}
use Rattle.chain_fronts.specs.chain_rows.Theorem.{Moves-Built}
use Rattle.box_set.specs.Theorem.{SetContains}

-- Where the rows hold a built chain or one built move: every point of every box, asked of the same rows at any time but NaN, is
-- answered and is inside the box's own cover, in its place, and inside the union, by itself and less and plus the pad at that time.
abbrev pub KeptSetContainsMotion : List Rows → List (List Float) → List (List Float) → List Float → Type 0
KeptSetContainsMotion rows boxes covers union =
    (time : Float)
    → Moves-Built rows → T (not (is_nan time))
    → SetContains (Moves-pad_at rows time) (Moves-transform_point rows time) (map Bounds3f-of_list boxes)
    (map Bounds3f-of_list (take (length boxes) covers)) (Bounds3f-of_list union)
