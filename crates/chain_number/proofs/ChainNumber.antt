-- A chain's number is that of its checks, or else the first of its moves': `chain-number`. Moves as a loop goes over them: `moves_next`.
use Prim.Native.Nat.{ℕ, ◌+◌, ◌-◌, ◌≤◌, ◌<◌}
use mathlib.Core.Path.{◌≡◌, refl, sym, ◌∙◌}
use mathlib.Core.Bool.{Bool, true, false, cond}
use mathlib.Core.List.{List, [], ◌∷◌, map, map-map}
use native.Mathlib.Omega.{arith}
use borrow.Author.Tests.{eqb-true}
use lib.Dec.{eqb}
use lib.ListN.{length, get_or}
use lib.Ieee.{Float}
use Rattle.animated_transform.specs.refusal.First.{first_refusal}
use Rattle.lent_arrays.specs.pose_pair.declared.Pose.{Pose}
use Rattle.animated_transform.specs.New.{AnimatedTransformAnswer}
use Rattle.animated_transform.specs.New.{AnimatedTransform-new}
use Rattle.lent_arrays.specs.Arrays.{Pose-of_list}
use Rattle.chain_poses.specs.motion_chain.Chain.{neighbours, first_number, stage, chain_refusal, built, refused, ChainAnswer-refusal, ChainAnswer-from_moves, Chain-new}
use Rattle.chain_poses.proofs.motion_chain.Built.{checks-passed}
use Rattle.chain_poses.proofs.Loops.{pairs_from, pairs_next}
use Rattle.chain_number.specs.Number.{Move-number, Chain-number}

module _ (rigid : Bool) where
  abbrev answers : List (Pose × Pose) → List AnimatedTransformAnswer
  answers = map (λ (p, q). AnimatedTransform-new rigid p q)

  pub numbers-same : (pairs : List (Pose × Pose)) → map (λ x. x.refusal) (answers pairs) ≡ map (Move-number rigid) pairs
  numbers-same = map-map (λ x. x.refusal) (λ (p, q). AnimatedTransform-new rigid p q)

  moves-number : (pair : Pose × Pose) (pairs : List (Pose × Pose))
      → ChainAnswer-refusal (ChainAnswer-from_moves (answers (pair ∷ pairs))) ≡ stage (Move-number rigid) (pair ∷ pairs)
  unfolding ChainAnswer-from_moves
  moves-number pair pairs = rw (numbers-same pairs) (go (eqb n 0) (eqb-true n 0))
    where
      n : ℕ
      n = stage (Move-number rigid) (pair ∷ pairs)

      go : (b : Bool) → (b ≡ true → n ≡ 0)
          → ChainAnswer-refusal (cond b
          (built (record { first = (AnimatedTransform-new rigid pair.0 pair.1).value; rest = map (λ x. x.value) (answers pairs) })) (refused n)) ≡ n
      go true f = sym (f refl)
      go false f = refl

  passed-number : (poses : List Pose) → chain_refusal rigid poses ≡ 0
      → ChainAnswer-refusal (ChainAnswer-from_moves (answers (neighbours poses))) ≡ stage (Move-number rigid) (neighbours poses)
  unfolding neighbours
  passed-number [] z = let h = (checks-passed rigid [] z).least in absurd (omega (arith, h))
  passed-number (p ∷ []) z = let h = (checks-passed rigid (p ∷ []) z).least in absurd (omega (arith, h))
  passed-number (p ∷ q ∷ poses) z = moves-number (p, q) (neighbours (q ∷ poses))

  pub chain-number : (poses : List Pose) → Chain-number rigid poses ≡ first_refusal (chain_refusal rigid poses) (stage (Move-number rigid) (neighbours poses))
  unfolding Chain-number Chain-new
  chain-number poses = go (eqb (chain_refusal rigid poses) 0) (eqb-true (chain_refusal rigid poses) 0)
    where
      go : (b : Bool) → (b ≡ true → chain_refusal rigid poses ≡ 0)
          → ChainAnswer-refusal (cond b (ChainAnswer-from_moves (answers (neighbours poses))) (refused (chain_refusal rigid poses)))
          ≡ cond b (stage (Move-number rigid) (neighbours poses)) (chain_refusal rigid poses)
      go true f = passed-number poses (f refl)
      go false f = refl

  -- ---- the moves, from the one whose second pose is at place i
  pub moves_next : (lists : List (List Float)) (i : ℕ) → 1 ≤ i → i < length lists → {r : ℕ}
      → r ≡ Move-number rigid (Pose-of_list (get_or lists (i - 1) []), Pose-of_list (get_or lists i []))
      → stage (Move-number rigid) (pairs_from lists i) ≡ first_refusal r (stage (Move-number rigid) (pairs_from lists (i + 1)))
  unfolding first_number
  moves_next lists i l h e =
      let n : i - 1 + 1 ≡ i = omega (arith, l) in
      rw (pairs_next lists i l h, n, e)
