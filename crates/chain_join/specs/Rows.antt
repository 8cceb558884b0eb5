-- Joining the chains in any rows, which need not be rows that building left: its number,
-- `Moves-join_refusal`, and what it leaves in 31 lent blocks, `Moves-join_left`. Definitions only.
use Rattle.std.specs.Prelude.{ℕ, ◌||◌, cond, List, ◌++◌, eqb, length}
use Rattle.pose_bits.specs.matrix4x4.Rows.{Rows}
use Rattle.chain_build.specs.chain_rows.Kept.{Moves-chain}
use Rattle.chain_build.specs.Build.{blocks_left}
use Rattle.joined_chains.specs.Join.{Chain-join_refusal}

-- No moves are no chain: 12. Then that of the chains in the rows.
unfoldable pub Moves-join_refusal : List Rows → List Rows → ℕ
Moves-join_refusal first second =
    cond (eqb (length first) 0 || eqb (length second) 0) 12 (Chain-join_refusal (Moves-chain first) (Moves-chain second))

-- The blocks of the first and then those of the second at the front places; after a refusal all that stood there.
unfoldable pub Moves-join_left : List Rows → List Rows → List Rows → List Rows
Moves-join_left first second old = cond (eqb (Moves-join_refusal first second) 0) (blocks_left (first ++ second) old) old
