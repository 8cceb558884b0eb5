-- The new moves beside a place in lent blocks, as the code that builds and puts them says it. No promise cites them. Definitions only.
use Rattle.std.specs.Prelude.{ℕ, ◌-◌, ◌≡◌, Bool, List, length, take}
use Rattle.transform.specs.matrix4x4.Rows.{Rows}
use Rattle.changed_chain.specs.pose_pair.declared.Pose.{Pose}
use Rattle.changed_chain.specs.motion_chain.Chain.{Chain, built, Chain-new}
use Rattle.changed_chain.specs.motion_chain.Built.{BuiltChain}
use Rattle.chain_build.specs.chain_rows.Kept.{Chain-to_rows}

-- The chain of the poses is built, and its rows are the first of the blocks.
pub record NewMoves (rigid : Bool) (poses : List Pose) (blocks : List Rows) : Type 0 where
  pub chain : Chain
  pub accepted : Chain-new rigid poses ≡ built chain
  pub is-built : BuiltChain chain
  pub rows : take (length poses - 1) blocks ≡ Chain-to_rows chain
