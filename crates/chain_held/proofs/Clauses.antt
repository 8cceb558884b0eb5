-- What the code reads is what the chain holds: `held-clauses` from its first and its last block (`last_block`), `pose-clauses` from the block whose pose it is
-- (`first-pose`, `later-pose`). That it is what the chain was built from is `built-poses`, `built-kind` and `built-lists`.
use Prim.Native.Nat.{ℕ, zero, suc, ◌+◌, ◌-◌, ◌≤◌, ◌<◌}
use mathlib.Core.Path.{◌≡◌, refl, sym, ap, subst, ◌∙◌}
use mathlib.Core.Bool.{Bool, true, false, cond}
use mathlib.Core.List.{List, [], ◌∷◌, map}
use native.Mathlib.Omega.{arith}
use lib.Dec.{eqb}
use borrow.Author.Tests.{ne_eqb}
use lib.ListN.{length, get_or, drop, length-map}
use lib.Ieee.{Float}
use Rattle.chain_rows.specs.matrix4x4.Rows.{Rows, at}
use Rattle.chain_rows.specs.pose_pair.declared.Pose.{Pose}
use Rattle.chain_rows.specs.lent_arrays.Arrays.{Pose-of_list}
use Rattle.chain_rows.specs.animated_transform.declared.AnimatedTransform.{AnimatedTransform}
use Rattle.chain_rows.specs.motion_rows.Rows.{AnimatedTransform-from_rows}
use Rattle.chain_rows.specs.motion_chain.Chain.{Chain, Chain-moves, built, Chain-new}
use Rattle.chain_rows.specs.motion_chain.MoveAt.{last_from, Chain-last}
use Rattle.kept_poses.specs.chain_poses.Poses.{Poses-of_lists}
use Rattle.kept_poses.specs.built_poses.Poses.{AnimatedTransform-start_pose, AnimatedTransform-end_pose, Chain-poses, Chain-is_rigid, Pose-list, Poses-lists}
use Rattle.kept_poses.proofs.built_poses.Built.{built-poses, built-kind}
use Rattle.kept_poses.proofs.built_poses.Lists.{built-lists}
use Rattle.chain_rows.specs.Kept.{Chain-to_rows, Moves-chain}
use Rattle.chain_rows.proofs.Kept.{kept-chain, not-empty}
use Rattle.chain_held.specs.declared.ChainHeld.{ChainHeld}
use Rattle.chain_held.specs.Held.{Chain-held, Moves-held, Moves-pose_refusal, Moves-pose_left}
use Rattle.chain_held.specs.Theorem.{HeldAsSet, PoseAsSet}

-- ---- the last block
last-from : (m : AnimatedTransform) (rows : List Rows) (i : ℕ) → suc i ≡ length rows
    → last_from m (map AnimatedTransform-from_rows rows) ≡ AnimatedTransform-from_rows (get_or rows i [])
unfolding last_from
last-from m [] i h = absurd (omega (arith, h))
last-from m (r ∷ []) zero h = refl
last-from m (r ∷ []) (suc i) h = absurd (omega (arith, h))
last-from m (r ∷ s ∷ rows) zero h = absurd (omega (arith, h))
last-from m (r ∷ s ∷ rows) (suc i) h = last-from (AnimatedTransform-from_rows r) (s ∷ rows) i (omega (arith, h))

pub last_block : (rows : List Rows) (i : ℕ) → suc i ≡ length rows → Chain-last (Moves-chain rows) ≡ AnimatedTransform-from_rows (get_or rows i [])
unfolding Moves-chain last_from
last_block [] i h = absurd (omega (arith, h))
last_block (r ∷ []) zero h = refl
last_block (r ∷ []) (suc i) h = absurd (omega (arith, h))
last_block (r ∷ s ∷ rows) zero h = absurd (omega (arith, h))
last_block (r ∷ s ∷ rows) (suc i) h = last-from (AnimatedTransform-from_rows r) (s ∷ rows) i (omega (arith, h))

-- ---- how many poses
pub poses-in : (rows : List Rows) → 0 < length rows → length (Chain-poses (Moves-chain rows)) ≡ length rows + 1
unfolding Chain-poses Moves-chain
poses-in [] h = absurd (omega (arith, h))
poses-in (r ∷ rows) h =
    ap (λ (n : ℕ). suc n) (length-map (map AnimatedTransform-from_rows (r ∷ rows)) AnimatedTransform-end_pose
    ∙ length-map (r ∷ rows) AnimatedTransform-from_rows) ∙ omega arith

first_block : (rows : List Rows) → (Moves-chain rows).first ≡ AnimatedTransform-from_rows (get_or rows 0 [])
unfolding Moves-chain
first_block rows = refl

start-time : (block : Rows) → (AnimatedTransform-from_rows block).start_time ≡ at block 16 3
unfolding AnimatedTransform-from_rows
start-time block = refl

end-time : (block : Rows) → (AnimatedTransform-from_rows block).end_time ≡ at block 17 3
unfolding AnimatedTransform-from_rows
end-time block = refl

-- ---- the clauses of `held`
pub held-worked : (rows : List Rows) (rigid : Bool) → (length rows ≡ 0 → ⊥) → rigid ≡ (AnimatedTransform-from_rows (get_or rows 0 [])).rigid
    → record { poses = length rows + 1; first = at (get_or rows 0 []) 16 3; last = at (get_or rows (length rows - 1) []) 17 3; rigid = rigid; refusal = 0 }
    ≡ Moves-held rows
unfolding Moves-held Chain-held
held-worked rows rigid h e =
    let some : 0 < length rows = omega (arith, h) in
    rw (
      ne_eqb (length rows) 0 h,
      poses-in rows some,
      last_block rows (length rows - 1) (omega (arith, some)),
      first_block rows,
      start-time (get_or rows 0 []),
      end-time (get_or rows (length rows - 1) []),
      e,
    )

held-set : (rows : List Rows) → HeldAsSet rows (Moves-held rows)
held-set rows = record {
  poses = λ rigid poses c b e. rw (worked c e) (unfold Chain-held in ap length (built-poses rigid poses c b));
  kind = λ rigid poses c b e. rw (worked c e) (unfold Chain-held in built-kind rigid poses c b);
  refusal = λ rigid poses c b e. rw (worked c e) (unfold Chain-held in refl);
}
  where
    worked : (c : Chain) → rows ≡ Chain-to_rows c → Moves-held rows ≡ Chain-held c
    worked c e = unfold Moves-held in rw (ap (λ (l : List Rows). eqb (length l) 0) e ∙ not-empty c, kept-chain rows c e)

pub held-clauses : (rows : List Rows) (r : ChainHeld) → r ≡ Moves-held rows → (r ≡ Moves-held rows) × HeldAsSet rows r
held-clauses rows r e = (e, subst (HeldAsSet rows) (sym e) (held-set rows))

-- ---- the clauses of `pose`
ends_at : (rows : List Rows) (k : ℕ) → k < length rows
    → get_or (map Pose-list (map AnimatedTransform-end_pose (map AnimatedTransform-from_rows rows))) k []
    ≡ Pose-list (AnimatedTransform-end_pose (AnimatedTransform-from_rows (get_or rows k [])))
ends_at [] k h = absurd (omega (arith, h))
ends_at (r ∷ rows) zero h = refl
ends_at (r ∷ rows) (suc k) h = ends_at rows k (omega (arith, h))

pub first-pose : (rows : List Rows) → get_or (Poses-lists (Chain-poses (Moves-chain rows))) 0 []
    ≡ Pose-list (AnimatedTransform-start_pose (AnimatedTransform-from_rows (get_or rows 0 [])))
unfolding Poses-lists Chain-poses Moves-chain
first-pose rows = refl

pub later-pose : (rows : List Rows) (k : ℕ) → k < length rows → get_or (Poses-lists (Chain-poses (Moves-chain rows))) (suc k) []
    ≡ Pose-list (AnimatedTransform-end_pose (AnimatedTransform-from_rows (get_or rows k [])))
unfolding Poses-lists Chain-poses Moves-chain
later-pose [] k h = absurd (omega (arith, h))
later-pose (r ∷ rows) k h = ends_at (r ∷ rows) k h

module _ (rows : List Rows) (place : ℕ) (old new : List Float) (r : ℕ) where
  pub pose-refused : r ≡ Moves-pose_refusal rows place → (r ≡ 0 → ⊥) → old ≡ Moves-pose_left rows place old
  unfolding Moves-pose_left
  pose-refused n h = rw (ne_eqb (Moves-pose_refusal rows place) 0 (λ z. h (n ∙ z)))

  pub pose-answered : r ≡ Moves-pose_refusal rows place → r ≡ 0
      → Moves-pose_left rows place old ≡ get_or (Poses-lists (Chain-poses (Moves-chain rows))) place []
  unfolding Moves-pose_left
  pose-answered n z = rw (sym n ∙ z)

  pub pose-clauses : r ≡ Moves-pose_refusal rows place → new ≡ Moves-pose_left rows place old
      → (r ≡ Moves-pose_refusal rows place) × ((new ≡ Moves-pose_left rows place old) × (r ≡ 0 → PoseAsSet rows place new))
  pose-clauses n e = (n, (e, set))
    where
      set : r ≡ 0 → PoseAsSet rows place new
      set z rigid lists c each b k =
          let kept : Poses-lists (Chain-poses (Moves-chain rows)) ≡ lists =
          ap (λ (d : Chain). Poses-lists (Chain-poses d)) (kept-chain rows c k) ∙ built-lists rigid lists c each b in
          e ∙ pose-answered n z ∙ ap (λ (l : List (List Float)). get_or l place []) kept
