-- The number that building gives, 0 for none: `Move-number`, of a move from one pose to another,
-- and `Chain-number`, of a chain, each of either kind, rigid or not. Definitions only.
use Rattle.std.specs.Prelude.{ℕ, Bool, List}
use Rattle.lent_arrays.specs.pose_pair.declared.Pose.{Pose}
use Rattle.animated_transform.specs.New.{AnimatedTransform-new}
use Rattle.chain_poses.specs.motion_chain.Chain.{ChainAnswer-refusal, Chain-new}

abbrev pub Move-number : Bool → Pose × Pose → ℕ
Move-number rigid (p, q) = (AnimatedTransform-new rigid p q).refusal

unfoldable pub Chain-number : Bool → List Pose → ℕ
Chain-number rigid poses = ChainAnswer-refusal (Chain-new rigid poses)
