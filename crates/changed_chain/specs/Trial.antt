-- A chain with one pose changed, and what is shown of it before the pose is stored: `Chain-changed` and `Chain-try`. Definitions only.
-- Quotations are of document 02, "Trying a pose first".
use Rattle.std.specs.Prelude.{ℕ, cond, ltb, length, set}
use Rattle.built_poses.specs.bounds3.declared.Bounds3f.{Bounds3f}
use Rattle.built_poses.specs.transform.declared.BoundsAnswer.{BoundsAnswer}
use Rattle.built_poses.specs.transform.declared.BoundsAnswer.TheVariants.{Refused}
use Rattle.built_poses.specs.pose_pair.declared.Pose.{Pose}
use Rattle.built_poses.specs.motion_chain.Chain.{Chain, ChainAnswer, built, refused, Chain-new, Chain-cover}
use Rattle.built_poses.specs.Poses.{Chain-poses, Chain-is_rigid}

-- "changing a copy": the chain of the same kind and the same poses but for the one at the place
unfoldable pub Chain-changed : Chain → ℕ → Pose → ChainAnswer
Chain-changed c place p = Chain-new (Chain-is_rigid c) (set (Chain-poses c) place p)

-- "asking that copy": its cover, or the number that building it is refused with
abbrev pub ChainAnswer-cover_at : ChainAnswer → Bounds3f → ℕ → BoundsAnswer
ChainAnswer-cover_at (built c) b depth = Chain-cover c b depth
ChainAnswer-cover_at (refused n) b depth = Refused n

-- "Given a chain, a place, a new pose with its time and pad, and a box with a depth, show the cover or the refusal. It is the same in
-- every bit as changing a copy and asking that copy"; "Places count from 0; one beyond the last pose is 19, judged before all else."
unfoldable pub Chain-try : Chain → ℕ → Pose → Bounds3f → ℕ → BoundsAnswer
Chain-try c place p b depth = cond (ltb place (length (Chain-poses c))) (ChainAnswer-cover_at (Chain-changed c place p) b depth) (Refused 19)
