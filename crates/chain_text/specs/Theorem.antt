-- What is written of a chain that was built, in the words of who keeps it: `WrittenBack`. Definitions only.
use Rattle.std.specs.Prelude.{ℕ, ◌≡◌, Bool, List, Float}
use Rattle.motion_text.specs.matrix4x4.Rows.{Rows}
use Rattle.bounds3.specs.declared.Bounds3f.{Bounds3f}
use Rattle.bounds3.specs.List.{Bounds3f-list}
use Rattle.chain_rows.specs.motion_chain.Chain.{Chain, built, Chain-new}
use Rattle.kept_poses.specs.chain_poses.Poses.{Poses-of_lists}
use Rattle.chain_rows.specs.Kept.{Chain-to_rows}
use Rattle.file_text.specs.Text.{Chain-text}
use Rattle.file_text.specs.Theorem.{ReadsAs}

-- Where the rows are those of the chain of either kind that was built from these poses, 18 floats each:
-- the text is the chain's, and "Reading it gives the same bits, a bottom row's zeros as +0."
pub record WrittenBack (rows : List Rows) (b : Bounds3f) (text : List ℕ) : Type 0 where
  pub own-text : (rigid : Bool) (poses : List (List Float)) (c : Chain) → Chain-new rigid (Poses-of_lists poses) ≡ built c → rows ≡ Chain-to_rows c
      → text ≡ Chain-text c b
  pub reads-back : (rigid : Bool) (poses : List (List Float)) (c : Chain) → Chain-new rigid (Poses-of_lists poses) ≡ built c → rows ≡ Chain-to_rows c
      → ReadsAs text poses (Bounds3f-list b)
