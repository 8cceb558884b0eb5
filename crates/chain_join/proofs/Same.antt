-- What the code that compares two chains gives: the last block has the last pose of the chain in the rows,
-- so that what is told of two blocks, of their poses and their kinds, is told of two chains: `poses-agree`, `poses-differ`.
use Prim.Native.Nat.{ℕ, zero, suc}
use mathlib.Core.Path.{◌≡◌, refl, sym, ap, ◌∙◌}
use mathlib.Core.Bool.{Bool, true, false, beq, ◌&&◌, cond, and-eq-true_iff}
use mathlib.Core.List.{List, [], ◌∷◌}
use native.Mathlib.Omega.{arith}
use lib.ListN.{length, get_or}
use Rattle.pose_bits.specs.matrix4x4.Rows.{Rows}
use Rattle.pose_bits.specs.pose_pair.declared.Pose.{Pose}
use Rattle.pose_bits.specs.Bits.{Pose-same_bits}
use Rattle.kept_poses.specs.motion_rows.Rows.{AnimatedTransform-from_rows}
use Rattle.kept_poses.specs.built_poses.Poses.{AnimatedTransform-start_pose, AnimatedTransform-end_pose}
use Rattle.kept_poses.specs.motion_chain.MoveAt.{last_from, Chain-last}
use Rattle.chain_build.specs.chain_rows.Kept.{Moves-chain}
use Rattle.joined_chains.specs.Join.{Chain-last_pose, Chain-first_pose, mismatch_refusal}

last_block : (rows : List Rows) (i : ℕ) → suc i ≡ length rows → Chain-last (Moves-chain rows) ≡ AnimatedTransform-from_rows (get_or rows i [])
unfolding Moves-chain last_from
last_block [] i h = absurd (omega (arith, h))
last_block (r ∷ []) zero h = refl
last_block (r ∷ []) (suc i) h = absurd (omega (arith, h))
last_block (r ∷ s ∷ rows) zero h = absurd (omega (arith, h))
last_block (r ∷ s ∷ rows) (suc i) h = last_block (s ∷ rows) i (omega (arith, h))

-- a test of the poses of a block's end and of another's start, and what it tells
abbrev Blocks : List Rows → List Rows → ℕ → Pose → Pose → Bool → Type 0
Blocks first second i p q r =
    (p ≡ AnimatedTransform-end_pose (AnimatedTransform-from_rows (get_or first i [])))
    × (q ≡ AnimatedTransform-start_pose (AnimatedTransform-from_rows (get_or second 0 [])))
    × (r ≡ Pose-same_bits p q)
    × (r ≡ true → p ≡ q)

abbrev Kinds : List Rows → List Rows → Bool → Type 0
Kinds first second k = k ≡ beq (AnimatedTransform-from_rows (get_or first 0 [])).rigid (AnimatedTransform-from_rows (get_or second 0 [])).rigid

abbrev Agree : List Rows → List Rows → ℕ → Type 0
Agree first second n =
    (n ≡ mismatch_refusal (Moves-chain first) (Moves-chain second)) × (n ≡ 0 → Chain-last_pose (Moves-chain first) ≡ Chain-first_pose (Moves-chain second))

module _ (first second : List Rows) (i : ℕ) {p q : Pose} {r k : Bool} (h : suc i ≡ length first)
    (blocks : Blocks first second i p q r) (f : Kinds first second k) where
  numbered : mismatch_refusal (Moves-chain first) (Moves-chain second) ≡ cond (r && k) 0 20
  unfolding mismatch_refusal Moves-chain
  numbered = rw (last_block first i h, ← blocks.0, ← blocks.1, ← blocks.2, ← f)

  pub poses-agree : (r && k) ≡ true → Agree first second 0
  unfolding Moves-chain
  poses-agree t =
      (sym (numbered ∙ rw t), λ _. ap AnimatedTransform-end_pose (last_block first i h) ∙ sym blocks.0 ∙ blocks.3 ((and-eq-true_iff r k).0 t).0 ∙ blocks.1)

  pub poses-differ : (r && k) ≡ false → Agree first second 20
  poses-differ t = (sym (numbered ∙ rw t), λ z. absurd (omega (arith, z)))
