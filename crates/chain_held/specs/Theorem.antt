-- A chain gives back what it was built from: `HeldAsSet`, its number of poses and its kind, and `PoseAsSet`, each pose bit by bit. Definitions only.
use Rattle.std.specs.Prelude.{ℕ, ◌≡◌, Bool, List, [], length, get_or, Float}
use Rattle.chain_rows.specs.matrix4x4.Rows.{Rows}
use Rattle.chain_rows.specs.pose_pair.declared.Pose.{Pose}
use Rattle.chain_rows.specs.motion_chain.Chain.{Chain, built, Chain-new}
use Rattle.chain_rows.specs.motion_chain.Built.{Each}
use Rattle.kept_poses.specs.chain_poses.Poses.{Poses-of_lists}
use Rattle.kept_poses.specs.built_poses.Poses.{places_per_pose}
use Rattle.chain_rows.specs.Kept.{Chain-to_rows}
use Rattle.chain_held.specs.declared.ChainHeld.{ChainHeld}

-- The rows are those of a chain of these poses, of this kind: it holds as many, is of that kind, and nothing is refused.
pub record HeldAsSet (rows : List Rows) (h : ChainHeld) : Type 0 where
  pub poses : (rigid : Bool) (poses : List Pose) (c : Chain) → Chain-new rigid poses ≡ built c → rows ≡ Chain-to_rows c → h.poses ≡ length poses
  pub kind : (rigid : Bool) (poses : List Pose) (c : Chain) → Chain-new rigid poses ≡ built c → rows ≡ Chain-to_rows c → h.rigid ≡ rigid
  pub refusal : (rigid : Bool) (poses : List Pose) (c : Chain) → Chain-new rigid poses ≡ built c → rows ≡ Chain-to_rows c → h.refusal ≡ 0

-- The rows are those of a chain of poses in lists of 18 floats: `values` is the list at the place.
abbrev pub PoseAsSet : List Rows → ℕ → List Float → Type 0
PoseAsSet rows place values =
    (rigid : Bool) (lists : List (List Float)) (c : Chain)
    → Each (λ l. length l ≡ places_per_pose) lists → Chain-new rigid (Poses-of_lists lists) ≡ built c → rows ≡ Chain-to_rows c
    → values ≡ get_or lists place []
