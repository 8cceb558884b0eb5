-- Joining is refused with 12 or 20 and with no other number, whatever the rows: `moves-join-number`.
use Prim.Native.Nat.{ℕ}
use mathlib.Core.Path.{refl}
use mathlib.Core.Bool.{Bool, true, false, beq, ◌&&◌, ◌||◌, cond}
use mathlib.Core.Logic.{◌⊎◌, inl, inr}
use mathlib.Core.List.{List, [], ◌∷◌}
use lib.Dec.{eqb, ltb}
use lib.ListN.{length}
use lib.Ieee.{lt}
use Rattle.refusal.specs.First.{first_refusal}
use Rattle.pose_bits.specs.matrix4x4.Rows.{Rows}
use Rattle.pose_bits.specs.transform.Answer.{OneOf}
use Rattle.pose_bits.specs.pose_pair.declared.Pose.{Pose}
use Rattle.pose_bits.specs.Bits.{Pose-same_bits}
use Rattle.kept_poses.specs.motion_chain.Chain.{max_poses, neighbours, Pair-number}
use Rattle.kept_poses.proofs.motion_chain.Built.{stage-keeps}
use Rattle.kept_poses.proofs.bounds_answers.UnionAll.{each_of}
use Rattle.kept_poses.specs.built_poses.Poses.{Chain-is_rigid}
use Rattle.chain_build.specs.chain_rows.Kept.{Moves-chain}
use Rattle.joined_chains.specs.Join.{Chain-last_pose, Chain-first_pose, Chain-joined_poses, mismatch_refusal, Chain-join_refusal}
use Rattle.chain_join.specs.Rows.{Moves-join_refusal}

abbrev JoinNumber : ℕ → Type 0
JoinNumber n = OneOf n (0 ∷ 12 ∷ 20 ∷ [])

pair-number : (x : Pose × Pose) → JoinNumber (Pair-number 12 x)
unfolding Pair-number
pair-number (p, q) = go (lt p.time q.time)
  where
    go : (b : Bool) → JoinNumber (cond b 0 12)
    go true = inl refl
    go false = inr (inl refl)

pub moves-join-number : (first second : List Rows) → OneOf (Moves-join_refusal first second) (0 ∷ 12 ∷ 20 ∷ [])
unfolding Moves-join_refusal Chain-join_refusal mismatch_refusal
moves-join-number first second =
    let c = Moves-chain first in
    let d = Moves-chain second in
    go (eqb (length first) 0 || eqb (length second) 0) (Pose-same_bits (Chain-last_pose c) (Chain-first_pose d) && beq (Chain-is_rigid c) (Chain-is_rigid d))
    (ltb max_poses (length (Chain-joined_poses c d)))
    (stage-keeps JoinNumber (inl refl) (Pair-number 12) (neighbours (Chain-joined_poses c d)) (each_of pair-number (neighbours (Chain-joined_poses c d))))
  where
    go : (a b n : Bool) {rise : ℕ} → JoinNumber rise → JoinNumber (cond a 12 (first_refusal (cond b 0 20) (first_refusal (cond n 12 0) rise)))
    go true b n h = inr (inl refl)
    go false true true h = inr (inl refl)
    go false true false h = h
    go false false n h = inr (inr (inl refl))
