-- A finer cover is never a wider one, of each box of a set and of their union, in the words of who keeps the chain: `KeptSetFiner`. Definitions only.
use Rattle.std.specs.Prelude.{ℕ, ◌≤◌, List, map, length, take, Float}
use Rattle.lent_arrays.specs.matrix4x4.Rows.{Rows}
use Rattle.bounds3.specs.List.{Bounds3f-of_list}
use Rattle.box_set.specs.bounds_query.Query.{max_depth}
use Rattle.chain_fronts.specs.chain_rows.Theorem.{Moves-Built}
use Rattle.box_set.specs.Set.{covered}
use Rattle.box_set.specs.Theorem.{SetWithin}
use Rattle.chain_covers.specs.Kept.{Moves-covers}

-- document 02, "A finer cover is never a wider one": "The same is wanted of each box
-- of a set and of their union." covers and union are what was answered at the depth.
abbrev pub KeptSetFiner : List Rows → List (List Float) → ℕ → List (List Float) → List Float → Type 0
KeptSetFiner rows boxes depth covers union =
    (finer : ℕ)
    → Moves-Built rows → depth ≤ finer → finer ≤ max_depth
    → SetWithin (Moves-covers rows boxes finer) (covered (map Bounds3f-of_list (take (length boxes) covers)) (Bounds3f-of_list union))
