-- Two chains made one, `Chain-join`: the two poses that must agree in every bit, the poses of the one chain, and the refusals. Quotations are of document 02,
-- "Two chains made one". Definitions only.
use Rattle.std.specs.Prelude.{ℕ, ◌&&◌, cond, List, ◌++◌, eqb, ltb, length, drop}
use Rattle.std.specs.Bool.{beq}
use Rattle.built_poses.specs.refusal.First.{first_refusal}
use Rattle.pose_bits.specs.pose_pair.declared.Pose.{Pose}
use Rattle.pose_bits.specs.Bits.{Pose-same_bits}
use Rattle.built_poses.specs.motion_chain.Chain.{max_poses, neighbours, stage, Pair-number, Chain, ChainAnswer, refused, Chain-new}
use Rattle.built_poses.specs.motion_chain.MoveAt.{Chain-last}
use Rattle.built_poses.specs.Poses.{AnimatedTransform-start_pose, AnimatedTransform-end_pose, Chain-poses, Chain-is_rigid}

-- ---- the pose that they share

-- "the last pose of the first and the first pose of the second"
abbrev pub Chain-last_pose : Chain → Pose
Chain-last_pose c = AnimatedTransform-end_pose (Chain-last c)

abbrev pub Chain-first_pose : Chain → Pose
Chain-first_pose c = AnimatedTransform-start_pose c.first

-- ---- joining

-- "one chain with that pose once"
unfoldable pub Chain-joined_poses : Chain → Chain → List Pose
Chain-joined_poses c d = Chain-poses c ++ drop 1 (Chain-poses d)

-- "A mismatch of bits or kind is 20", since "A rigid and a plain chain can't be joined"; 0 is none
unfoldable pub mismatch_refusal : Chain → Chain → ℕ
mismatch_refusal c d = cond (Pose-same_bits (Chain-last_pose c) (Chain-first_pose d) && beq (Chain-is_rigid c) (Chain-is_rigid d)) 0 20

-- "a result above 32 poses is 12"
abbrev pub count_refusal : ℕ → ℕ
count_refusal poses = cond (ltb max_poses poses) 12 0

-- "times that don't rise strictly are 12" ("Poses in a chain"), as where a move by itself with equal times is taken for a chain
abbrev pub rise_refusal : List Pose → ℕ
rise_refusal poses = stage (Pair-number 12) (neighbours poses)

-- "and a result above 32 poses is 12 after it": the checks of a chain that two chains' poses may newly fail
unfoldable pub Chain-join_refusal : Chain → Chain → ℕ
Chain-join_refusal c d =
    let poses = Chain-joined_poses c d in
    first_refusal (mismatch_refusal c d) (first_refusal (count_refusal (length poses)) (rise_refusal poses))

unfoldable pub Chain-join : Chain → Chain → ChainAnswer
Chain-join c d =
    let n = Chain-join_refusal c d in
    cond (eqb n 0) (Chain-new (Chain-is_rigid c) (Chain-joined_poses c d)) (refused n)
