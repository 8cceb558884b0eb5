-- May a greater depth ever lose a row? No: a finer cover is never a wider one. `KeptChainFiner`, in the words of who keeps the chain. Definitions only.
--
-- Take rows that hold a built chain or one built move, any box, and any depth at which its cover is accepted. Then
-- the same query at each greater depth up to 12 is accepted too, and its box lies in that cover on every axis.
use Rattle.std.specs.Prelude.{ℕ, ◌≤◌, List}
use Rattle.transform.specs.matrix4x4.Rows.{Rows}
use Rattle.bounds3.specs.declared.Bounds3f.{Bounds3f}
use Rattle.motion_chain.specs.bounds_query.Query.{max_depth}
use Rattle.motion_chain.specs.cover_depth.Finer.{Within}
use Rattle.chain_rows.specs.Kept.{Moves-cover}
use Rattle.chain_rows.specs.Theorem.{Moves-Built}

-- document 02, "A finer cover is never a wider one": "For the same chain and box, where the cover at a depth is accepted, the cover
-- at each greater depth up to 12 is accepted and lies inside it on every axis". cover is the box that was answered at the depth.
abbrev pub KeptChainFiner : List Rows → Bounds3f → ℕ → Bounds3f → Type 0
KeptChainFiner rows b depth cover =
    (finer : ℕ)
    → Moves-Built rows → depth ≤ finer → finer ≤ max_depth
    → Within (Moves-cover rows b finer) cover
