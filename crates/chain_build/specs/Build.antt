-- What building a chain leaves in 31 lent blocks of rows: `ChainAnswer-left`. Definitions only.
use Rattle.std.specs.Prelude.{List, ◌++◌, length, drop}
use Rattle.lent_arrays.specs.matrix4x4.Rows.{Rows}
use Rattle.chain_poses.specs.motion_chain.Chain.{ChainAnswer, built, refused}
use Rattle.chain_rows.specs.Kept.{Chain-to_rows}

-- The blocks at the front places, and behind them what stood there.
abbrev pub blocks_left : List Rows → List Rows → List Rows
blocks_left blocks old = blocks ++ drop (length blocks) old

-- The rows of the chain's moves at the front places; after a refusal all that stood there.
abbrev pub ChainAnswer-left : ChainAnswer → List Rows → List Rows
ChainAnswer-left (built c) old = blocks_left (Chain-to_rows c) old
ChainAnswer-left (refused n) old = old
