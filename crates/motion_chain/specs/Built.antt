-- A built chain, `BuiltChain`, and what holds of its moves, `BuiltMoves`; that after the whole chain's checks each pair is worked, `PairsWorked`.
-- The statements of `built-moves` and `pairs-worked`.
use Rattle.std.specs.Prelude.{◌<◌, ◌≡◌, Bool, List, [], ◌∷◌, T, length, Float}
use Rattle.std.specs.Float.Ieee.{lt}
pub use Rattle.bounds_answers.specs.UnionAll.{Each}
use Rattle.bounds_answers.specs.pose_pair.declared.Pose.{Pose}
use Rattle.bounds_answers.specs.pose_pair.Pose.{Pose-is_binary32}
use Rattle.bounds_answers.specs.animated_transform.declared.AnimatedTransform.{AnimatedTransform}
use Rattle.bounds_answers.specs.animated_transform.New.{AnimatedTransform-from_poses, AnimatedTransform-new}
use Rattle.bounds_answers.specs.animated_transform.Built.{Built}
use Rattle.motion_chain.specs.Chain.{max_poses, neighbours, every, chain_refusal, Chain, Chain-moves, built, Chain-new}

-- of either kind, rigid or not; as a built move of document 01: building gives no refusal, and the times and pads are 32-bit floats
pub record BuiltChain (c : Chain) : Type 0 where
  pub rigid : Bool
  pub poses : List Pose
  pub poses-binary32 : T (every Pose-is_binary32 poses)
  pub accepted : Chain-new rigid poses ≡ built c

-- Each move's times rise strictly, the first starts at the given time, and every other at the end time of the one before it.
abbrev pub Contiguous : Float → List AnimatedTransform → Type 0
Contiguous time [] = Unit {0}
Contiguous time (m ∷ moves) = (m.start_time ≡ time) × T (lt m.start_time m.end_time) × Contiguous m.end_time moves

-- "Each neighbouring pair is a move of document 01", so that neighbouring moves share the inner pose's time, and 32 poses have 31 moves
pub record BuiltMoves (c : Chain) : Type 0 where
  pub each : Each Built (Chain-moves c)
  pub contiguous : Contiguous c.first.start_time (Chain-moves c)
  pub count : length (Chain-moves c) < max_poses

-- "worked in rising order once the whole chain's checks are over": no pair of a chain that has passed them is refused before it is worked
abbrev pub PairsWorked : Bool → List Pose → Type 0
PairsWorked rigid poses =
    chain_refusal rigid poses ≡ 0 → Each (λ (p, q). AnimatedTransform-new rigid p q ≡ AnimatedTransform-from_poses rigid p q) (neighbours poses)
