-- A changed pose changes the moves beside it alone: `ChangedBeside`, the statement of `changed-beside`.
use Rattle.std.specs.Prelude.{ℕ, ◌-◌, ◌≡◌, List, ◌∷◌, ◌++◌, map, take, drop}
use Rattle.std.proofs.lemmas.List.Edits.{sets}
use Rattle.built_poses.specs.pose_pair.declared.Pose.{Pose}
use Rattle.built_poses.specs.animated_transform.declared.AnimatedTransform.{AnimatedTransform}
use Rattle.built_poses.specs.motion_chain.Chain.{Chain, Chain-moves, ChainAnswer, built, refused, Chain-new}
use Rattle.built_poses.specs.Poses.{AnimatedTransform-start_pose, AnimatedTransform-end_pose, Chain-is_rigid}
use Rattle.changed_chain.specs.Trial.{Chain-changed}

-- The pose p at a place, between the start of the move before the place and the end of the move behind it.
-- At the first and at the last place one of the two is missing.
unfoldable pub Chain-beside : Chain → ℕ → Pose → List Pose
Chain-beside c place p =
    let moves = Chain-moves c in
    map AnimatedTransform-start_pose (drop (place - 1) (take place moves)) ++ p ∷ map AnimatedTransform-end_pose (take 1 (drop place moves))

-- The moves beside a place, built anew.
abbrev pub Chain-new_beside : Chain → ℕ → Pose → ChainAnswer
Chain-new_beside c place p = Chain-new (Chain-is_rigid c) (Chain-beside c place p)

-- The answer is a chain of these moves.
pub record BuiltOf (answer : ChainAnswer) (moves : List AnimatedTransform) : Type 0 where
  pub chain : Chain
  pub is-built : answer ≡ built chain
  pub same-moves : Chain-moves chain ≡ moves

-- The changed chain is refused as the chain of the poses beside the place is; otherwise its moves are the old ones, but for those of that chain.
pub record ChangedBeside (c : Chain) (place : ℕ) (p : Pose) : Type 0 where
  pub refused-beside : (n : ℕ) → Chain-new_beside c place p ≡ refused n → Chain-changed c place p ≡ refused n
  pub built-beside : (d : Chain) → Chain-new_beside c place p ≡ built d
      → BuiltOf (Chain-changed c place p) (sets (Chain-moves c) (place - 1) (Chain-moves d))
