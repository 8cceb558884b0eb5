-- Building a chain gives documents 01's and 02's numbers alone: `building-numbered`.
use Prim.Native.Nat.{ℕ}
use mathlib.Core.Path.{◌≡◌, refl}
use mathlib.Core.Bool.{Bool, true, false, not, ◌||◌, cond}
use mathlib.Core.Logic.{inl, inr}
use mathlib.Core.List.{List, [], ◌∷◌, ◌++◌, map}
use borrow.Author.Tests.{eqb-false}
use native.Mathlib.Omega.{arith}
use lib.Dec.{eqb, ltb}
use lib.ListN.{length}
use lib.Ieee.{lt}
use lib.Ieee.Scale.{finite}
use Rattle.run_schedule.proofs.control_flow.Choice.{cond-keeps}
use Rattle.run_schedule.specs.float32.Operators.{◌⊖◌}
use Rattle.motion_bounds_laws.specs.pose_pair.declared.Pose.{Pose}
use Rattle.motion_bounds_laws.specs.pose_pair.Pose.{Pose-is_finite, Pose-is_affine, Pose-is_padded, times_refusal, Pose-kind_number}
use Rattle.motion_bounds_laws.proofs.pose_pair.Kind.{kind-each}
use Rattle.motion_bounds_laws.specs.animated_transform.New.{AnimatedTransformAnswer}
use Rattle.motion_bounds_laws.specs.animated_transform.New.{AnimatedTransform-new}
use Rattle.motion_bounds_laws.specs.animated_transform.Numbers.{kind_numbers}
use Rattle.run_schedule.specs.transform.Answer.{OneOf}
use Rattle.refused_run.proofs.bounds_answers.UnionAll.{each_of}
use Rattle.refused_run.specs.motion_chain.Chain.{min_poses, max_poses, neighbours, stage, Pose-number, Pair-number, kind_stage, chain_stages, chain_refusal}
use Rattle.refused_run.specs.motion_chain.Chain.{ChainAnswer, built, refused, ChainAnswer-from_moves, Chain-new}
use Rattle.refused_run.specs.motion_chain.Built.{Each}
use Rattle.refused_run.proofs.motion_chain.Built.{number-keeps, stage-keeps}
use Rattle.refusal_numbers.specs.Chain.{building_numbers, ChainAnswer-Numbered}
use Rattle.refusal_numbers.proofs.Building.{building-number}

-- ---- the numbers of building, 0 being none
abbrev numbers : Bool → List ℕ
numbers = building_numbers

abbrev Number : Bool → ℕ → Type 0
Number rigid n = OneOf n (numbers rigid)

module _ (rigid : Bool) where
  twelve : Number rigid 12
  twelve = inr (inr (inr (inr (inr (inr (inl refl))))))

  sixteen : Number rigid 16
  sixteen = inr (inr (inr (inr (inr (inr (inr (inl refl)))))))

  -- but for the stage of a rigid chain
  pose-number : (k : ℕ) → eqb k 17 ≡ false → (p : Pose) → Number rigid (Pose-number k p)
  unfolding Pose-number
  pose-number k e p =
      let P = Number rigid in
      let finite = cond-keeps P (Pose-is_finite p) 0 1 (inl refl) (inr (inl refl)) in
      let affine = cond-keeps P (Pose-is_affine p) 0 2 (inl refl) (inr (inr (inl refl))) in
      let padded = cond-keeps P (Pose-is_padded p) 0 16 (inl refl) sixteen in
      cond-keeps P (eqb k 1) (cond (Pose-is_finite p) 0 1) _ finite
      (cond-keeps P (eqb k 2) (cond (Pose-is_affine p) 0 2) _ affine
      (cond-keeps P (eqb k 16) (cond (Pose-is_padded p) 0 16) _ padded (rw e (inl refl))))

  pair-number : (k : ℕ) (pair : Pose × Pose) → Number rigid (Pair-number k pair)
  unfolding Pair-number times_refusal
  pair-number k (p, q) =
      let P = Number rigid in
      let rise = cond-keeps P (lt p.time q.time) 0 12 (inl refl) twelve in
      let times = cond-keeps P (lt q.time p.time || not (finite (q.time ⊖ p.time))) 3 0 (inr (inr (inr (inl refl)))) (inl refl) in
      cond-keeps P (eqb k 12) (cond (lt p.time q.time) 0 12) _ rise (cond-keeps P (eqb k 3) (times_refusal p.time q.time) 0 times (inl refl))

  stage-number : {A : Type 0} (f : A → ℕ) (xs : List A) → ((x : A) → Number rigid (f x)) → Number rigid (stage f xs)
  stage-number f xs h = stage-keeps (Number rigid) (inl refl) f xs (each_of h xs)

kind-number : (rigid : Bool) (poses : List Pose) → Number rigid (kind_stage rigid poses)
unfolding kind_stage Pose-number
kind-number true poses =
    stage-number true (Pose-kind_number true) poses
    (λ p. kind-each (Number true) true p (inl refl)
    (λ t. inr (inr (inr (inr (inr (inr (inr (inr (inl refl)))))))))
    (λ t. inr (inr (inr (inr (inr (inr (inr (inr (inr (inl refl)))))))))))
kind-number false poses = inl refl

checks-number : (rigid : Bool) (poses : List Pose) → Number rigid (chain_refusal rigid poses)
unfolding chain_refusal
checks-number rigid poses =
    let pose-stage : (k : ℕ) → eqb k 17 ≡ false → Number rigid (stage (Pose-number k) poses) =
    λ k e. stage-number rigid (Pose-number k) poses (pose-number rigid k e) in
    let pair-stage : (k : ℕ) → Number rigid (stage (Pair-number k) (neighbours poses)) =
    λ k. stage-number rigid (Pair-number k) (neighbours poses) (pair-number rigid k) in
    let count = cond-keeps (Number rigid) (ltb (length poses) min_poses || ltb max_poses (length poses)) 12 0 (twelve rigid) (inl refl) in
    number-keeps (Number rigid) (inl refl) (chain_stages rigid poses)
    (pose-stage 1 refl, (pose-stage 2 refl, (pose-stage 16 refl, (count, (pair-stage 12, (pair-stage 3, (kind-number rigid poses, tt)))))))

inserted : (n : ℕ) (ns : List ℕ) (k : ℕ) (ks : List ℕ) → OneOf n (ns ++ ks) → OneOf n (ns ++ (k ∷ ks))
inserted n [] k ks h = inr h
inserted n (m ∷ ns) k ks (inl e) = inl e
inserted n (m ∷ ns) k ks (inr h) = inr (inserted n ns k ks h)

new-number : (rigid : Bool) (p q : Pose) → Number rigid (AnimatedTransform-new rigid p q).refusal
new-number rigid p q =
    inserted (AnimatedTransform-new rigid p q).refusal (0 ∷ 1 ∷ 2 ∷ 3 ∷ 4 ∷ 5 ∷ []) 12 (16 ∷ kind_numbers rigid) (building-number rigid p q)

-- A number that was tested.
tested : (rigid : Bool) (n : ℕ) (a : ChainAnswer) → Number rigid n → ChainAnswer-Numbered (numbers rigid) a
    → ChainAnswer-Numbered (numbers rigid) (cond (eqb n 0) a (refused n))
tested rigid n a h k = go (eqb n 0) (eqb-false n 0)
  where
    go : (b : Bool) → (b ≡ false → n ≡ 0 → ⊥) → ChainAnswer-Numbered (numbers rigid) (cond b a (refused n))
    go true f = k
    go false f = record { number = h; none = λ e. absurd (f refl e) }

from-moves-numbered : (rigid : Bool) (answers : List AnimatedTransformAnswer) → Each (λ a. Number rigid a.refusal) answers
    → ChainAnswer-Numbered (numbers rigid) (ChainAnswer-from_moves answers)
unfolding ChainAnswer-from_moves
from-moves-numbered rigid [] h = record { number = inr (inr (inr (inr (inr (inr (inl refl)))))); none = λ e. absurd (omega (arith, e)) }
from-moves-numbered rigid (a ∷ answers) h =
    tested rigid (stage (λ x. x.refusal) (a ∷ answers)) _ (stage-keeps (Number rigid) (inl refl) (λ x. x.refusal) (a ∷ answers) h)
    (record { number = inl refl; none = λ _. (record { first = a.value; rest = map (λ x. x.value) answers }, refl) })

pub building-numbered : (rigid : Bool) (poses : List Pose) → ChainAnswer-Numbered (numbers rigid) (Chain-new rigid poses)
unfolding Chain-new
building-numbered rigid poses =
    tested rigid (chain_refusal rigid poses) _ (checks-number rigid poses)
    (from-moves-numbered rigid (map (λ (p, q). AnimatedTransform-new rigid p q) (neighbours poses)) (pairs (neighbours poses)))
  where
    pairs : (xs : List (Pose × Pose)) → Each (λ a. Number rigid a.refusal) (map (λ (p, q). AnimatedTransform-new rigid p q) xs)
    pairs [] = tt
    pairs ((p, q) ∷ xs) = (new-number rigid p q, pairs xs)
