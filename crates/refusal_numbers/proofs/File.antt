-- The numbers of the answer to a file: `file-numbered`. 11 is reading's (`read-refusals`); 1, 16, 12, 3, 4 and 5 are building's, of a rigid chain 17 and 18 too.
-- It has no 2, since a file's bottom rows are right (`chain-affine`); depth 10 is below the greatest, so that the cover gives no 8.
use Prim.Native.Nat.{ℕ}
use mathlib.Core.Path.{◌≡◌, refl, sym, ap, subst}
use mathlib.Core.Bool.{Bool, true, false, not, ◌||◌, cond}
use mathlib.Core.Logic.{◌⊎◌, inl, inr}
use mathlib.Core.List.{List, [], ◌∷◌, map}
use native.Mathlib.Omega.{arith}
use lib.Dec.{T, eqb, ltb}
use lib.Ieee.{lt}
use lib.Ieee.Bits.{is_true}
use lib.Ieee.Fits.{and_l, and_r}
use lib.Ieee.Scale.{finite}
use lib.ListN.{length}
use Rattle.run_schedule.proofs.control_flow.Choice.{cond-keeps}
use Rattle.run_schedule.specs.float32.Operators.{◌⊖◌}
use Rattle.run_schedule.specs.bounds3.declared.Bounds3f.{Bounds3f}
use Rattle.run_schedule.specs.transform.declared.BoundsAnswer.{BoundsAnswer}
use Rattle.run_schedule.specs.transform.declared.BoundsAnswer.TheVariants as bounds
use Rattle.run_schedule.specs.transform.Answer.{OneOf, BoundsAnswer-refusal}
use Rattle.run_schedule.specs.bounds_query.Query.{BoundsAnswer-union_bounds, max_depth, cover_refusal}
use Rattle.run_schedule.specs.bounds_query.Zeros.{BoundsAnswer-positive_zeros}
use Rattle.run_schedule.proofs.bounds_query.Numbers.{box-keeps}
use Rattle.run_schedule.proofs.bounds_query.Union.{union-keeps}
use Rattle.run_schedule.proofs.bounds_query.Zeros.{zeros-refusal}
use Rattle.motion_bounds_laws.specs.pose_steps.Promise.{SliceNumber}
use Rattle.motion_bounds_laws.specs.pose_pair.declared.Pose.{Pose}
use Rattle.motion_bounds_laws.specs.pose_pair.Pose.{Pose-is_finite, Pose-is_affine, Pose-is_padded, times_refusal, Pose-kind_number}
use Rattle.motion_bounds_laws.proofs.pose_pair.Kind.{kind-each}
use Rattle.motion_bounds_laws.specs.animated_transform.declared.AnimatedTransform.{AnimatedTransform}
use Rattle.motion_bounds_laws.specs.animated_transform.New.{AnimatedTransformAnswer}
use Rattle.motion_bounds_laws.specs.animated_transform.New.{AnimatedTransform-new}
use Rattle.motion_bounds_laws.specs.animated_transform.Numbers.{kind_numbers}
use Rattle.motion_bounds_laws.proofs.animated_transform.Numbers.{new-affine}
use Rattle.refused_run.specs.motion_cover.Cover.{AnimatedTransform-enclose_motion, AnimatedTransform-cover}
use Rattle.refused_run.specs.motion_cover.Answer.{BoundsAnswer-Numbered}
use Rattle.refused_run.proofs.motion_cover.Number.{motion-number}
use Rattle.refused_run.specs.motion_chain.Chain.{min_poses, max_poses, neighbours, every, stage, Pose-number, Pair-number, kind_stage, chain_stages, chain_refusal}
use Rattle.refused_run.specs.motion_chain.Chain.{Chain, ChainAnswer, built, refused, ChainAnswer-refusal, ChainAnswer-from_moves, Chain-new, union_covers, Chain-cover}
use Rattle.refused_run.specs.motion_chain.Built.{Each}
use Rattle.refused_run.proofs.motion_chain.Built.{number-keeps, stage-keeps}
use Rattle.refused_run.specs.chain_poses.Poses.{Poses-of_lists}
use Rattle.file_rewrite.specs.motion_file.declared.MoveFile.{MoveFile}
use Rattle.file_rewrite.specs.motion_file.Layout.{MoveFile-departs, MoveFile-read, MoveFile-box, MoveFile-poses}
use Rattle.file_rewrite.proofs.motion_file.Files.{read-refusals}
use Rattle.file_rewrite.specs.motion_answer.Answer.{cover_depth, ChainAnswer-cover, MoveFile-chain, MoveFile-cover}
use Rattle.file_rewrite.proofs.motion_answer.Built.{poses-affine}
use Rattle.file_rewrite.proofs.motion_answer.Contains.{file-answered}
use Rattle.refused_run.proofs.bounds_answers.UnionAll.{each_of}
use Rattle.refusal_numbers.specs.Chain.{building_numbers}
use Rattle.refusal_numbers.proofs.Chain.{building-numbered}

abbrev numbers : Bool → List ℕ
numbers rigid = 0 ∷ 1 ∷ 3 ∷ 4 ∷ 5 ∷ 6 ∷ 7 ∷ 10 ∷ 11 ∷ 12 ∷ 16 ∷ kind_numbers rigid

abbrev Number : Bool → ℕ → Type 0
Number rigid n = OneOf n (numbers rigid)

-- ---- a chain of poses whose bottom rows are right is not refused with 2
abbrev pub Not2 : ℕ → Type 0
Not2 n = n ≡ 2 → ⊥

zero-not : Not2 0
zero-not e = absurd (omega (arith, e))

stage-not : {A : Type 0} (f : A → ℕ) (xs : List A) → Each (λ x. Not2 (f x)) xs → Not2 (stage f xs)
stage-not = stage-keeps Not2 zero-not

affine-each : (poses : List Pose) → T (every Pose-is_affine poses) → Each (λ p. Pose-is_affine p ≡ true) poses
unfolding every
affine-each [] h = tt
affine-each (p ∷ poses) h =
    let rest = every Pose-is_affine poses in
    (is_true (Pose-is_affine p) (and_l (Pose-is_affine p) rest h), affine-each poses (and_r (Pose-is_affine p) rest h))

affine-not : (poses : List Pose) → Each (λ p. Pose-is_affine p ≡ true) poses → Each (λ p. Not2 (Pose-number 2 p)) poses
unfolding Pose-number
affine-not [] h = tt
affine-not (p ∷ poses) (h, hs) = (rw h zero-not, affine-not poses hs)

finite-not : (p : Pose) → Not2 (Pose-number 1 p)
unfolding Pose-number
finite-not p = cond-keeps Not2 (Pose-is_finite p) 0 1 zero-not (λ e. absurd (omega (arith, e)))

padded-not : (p : Pose) → Not2 (Pose-number 16 p)
unfolding Pose-number
padded-not p = cond-keeps Not2 (Pose-is_padded p) 0 16 zero-not (λ e. absurd (omega (arith, e)))

twelve-not : Not2 12
twelve-not e = absurd (omega (arith, e))

rise-not : (pair : Pose × Pose) → Not2 (Pair-number 12 pair)
unfolding Pair-number
rise-not (p, q) = cond-keeps Not2 (lt p.time q.time) 0 12 zero-not twelve-not

times-not : (pair : Pose × Pose) → Not2 (Pair-number 3 pair)
unfolding Pair-number times_refusal
times-not (p, q) = cond-keeps Not2 (lt q.time p.time || not (finite (q.time ⊖ p.time))) 3 0 (λ e. absurd (omega (arith, e))) zero-not

kind-not : (rigid : Bool) (poses : List Pose) → Not2 (kind_stage rigid poses)
unfolding kind_stage Pose-number
kind-not true poses =
    stage-not (Pose-kind_number true) poses
    (each_of (λ p. kind-each Not2 true p zero-not (λ t e. absurd (omega (arith, e))) (λ t e. absurd (omega (arith, e)))) poses)
kind-not false poses = zero-not

checks-not : (rigid : Bool) (poses : List Pose) → Each (λ p. Pose-is_affine p ≡ true) poses → Not2 (chain_refusal rigid poses)
unfolding chain_refusal
checks-not rigid poses h =
    let pairs = neighbours poses in
    let count = cond-keeps Not2 (ltb (length poses) min_poses || ltb max_poses (length poses)) 12 0 twelve-not zero-not in
    let rise = stage-not (Pair-number 12) pairs (each_of rise-not pairs) in
    let times = stage-not (Pair-number 3) pairs (each_of times-not pairs) in
    let finite = stage-not (Pose-number 1) poses (each_of finite-not poses) in
    let affine = stage-not (Pose-number 2) poses (affine-not poses h) in
    let padded = stage-not (Pose-number 16) poses (each_of padded-not poses) in
    number-keeps Not2 zero-not (chain_stages rigid poses) (finite, (affine, (padded, (count, (rise, (times, (kind-not rigid poses, tt)))))))

moves_not : (rigid : Bool) (poses : List Pose) → Each (λ p. Pose-is_affine p ≡ true) poses
    → Each (λ a. Not2 a.refusal) (map (λ (p, q). AnimatedTransform-new rigid p q) (neighbours poses))
unfolding neighbours
moves_not rigid [] h = tt
moves_not rigid (p ∷ []) h = tt
moves_not rigid (p ∷ q ∷ poses) (h, (k, hs)) = (new-affine rigid p q h k, moves_not rigid (q ∷ poses) (k, hs))

tested-not : (n : ℕ) (a : ChainAnswer) → Not2 n → Not2 (ChainAnswer-refusal a) → Not2 (ChainAnswer-refusal (cond (eqb n 0) a (refused n)))
tested-not n a h k = go (eqb n 0)
  where
    go : (b : Bool) → Not2 (ChainAnswer-refusal (cond b a (refused n)))
    go true = k
    go false = h

from-moves-not : (answers : List AnimatedTransformAnswer) → Each (λ a. Not2 a.refusal) answers → Not2 (ChainAnswer-refusal (ChainAnswer-from_moves answers))
unfolding ChainAnswer-from_moves
from-moves-not [] h = twelve-not
from-moves-not (a ∷ answers) h = tested-not (stage (λ x. x.refusal) (a ∷ answers)) _ (stage-not (λ x. x.refusal) (a ∷ answers) h) zero-not

pub chain-affine : (rigid : Bool) (poses : List Pose) → T (every Pose-is_affine poses) → Not2 (ChainAnswer-refusal (Chain-new rigid poses))
unfolding Chain-new
chain-affine rigid poses h = let each = affine-each poses h in
    tested-not (chain_refusal rigid poses) _ (checks-not rigid poses each) (from-moves-not _ (moves_not rigid poses each))

module _ (rigid : Bool) where
  read_number : (bytes : List ℕ) → Number rigid (MoveFile-read bytes).refusal
  read_number bytes = go (read-refusals bytes)
    where
      go : ((MoveFile-read bytes).refusal ≡ 0) ⊎ (MoveFile-read bytes ≡ MoveFile-departs) → Number rigid (MoveFile-read bytes).refusal
      go (inl e) = inl e
      go (inr e) = inr (inr (inr (inr (inr (inr (inr (inr (inl (ap (λ (f : MoveFile). f.refusal) e)))))))))

  building-number : {n : ℕ} → OneOf n (building_numbers rigid) → Not2 n → Number rigid n
  building-number (inl e) h = inl e
  building-number (inr (inl e)) h = inr (inl e)
  building-number (inr (inr (inl e))) h = absurd (h e)
  building-number (inr (inr (inr (inl e)))) h = inr (inr (inl e))
  building-number (inr (inr (inr (inr (inl e))))) h = inr (inr (inr (inl e)))
  building-number (inr (inr (inr (inr (inr (inl e)))))) h = inr (inr (inr (inr (inl e))))
  building-number (inr (inr (inr (inr (inr (inr (inl e))))))) h = inr (inr (inr (inr (inr (inr (inr (inr (inr (inl e)))))))))
  building-number (inr (inr (inr (inr (inr (inr (inr (inl e)))))))) h = inr (inr (inr (inr (inr (inr (inr (inr (inr (inr (inl e))))))))))
  building-number (inr (inr (inr (inr (inr (inr (inr (inr e)))))))) h = inr (inr (inr (inr (inr (inr (inr (inr (inr (inr (inr e))))))))))

  -- ---- the cover at depth 10
  abbrev CoverNumber : BoundsAnswer → Type 0
  CoverNumber r = Number rigid (BoundsAnswer-refusal r)

  asked-number : (b : Bounds3f) → Number rigid (cover_refusal b cover_depth)
  unfolding cover_refusal
  asked-number b =
      box-keeps (λ (n : ℕ). Number rigid (cond (eqb n 0) (cond (ltb max_depth cover_depth) 8 0) n)) b
      (inl refl) (inr (inr (inr (inr (inr (inl refl)))))) (inr (inr (inr (inr (inr (inr (inl refl)))))))

  slice-number : {n : ℕ} → SliceNumber n → Number rigid n
  slice-number (inl e) = inl e
  slice-number (inr (inl e)) = inr (inr (inr (inr (inl e))))
  slice-number (inr (inr e)) = inr (inr (inr (inr (inr (inr (inr (inl e)))))))

  move-number : (m : AnimatedTransform) (b : Bounds3f) → CoverNumber (AnimatedTransform-cover m b cover_depth)
  unfolding AnimatedTransform-cover
  move-number m b =
      cond-keeps CoverNumber (eqb (cover_refusal b cover_depth) 0) (BoundsAnswer-positive_zeros (AnimatedTransform-enclose_motion m b cover_depth)) _
      (subst (Number rigid) (sym (zeros-refusal (AnimatedTransform-enclose_motion m b cover_depth))) (slice-number (motion-number m b cover_depth))) (asked-number b)

  covers-number : (b : Bounds3f) (r : BoundsAnswer) (moves : List AnimatedTransform) → CoverNumber r → CoverNumber (union_covers b cover_depth r moves)
  unfolding union_covers
  covers-number b r [] h = h
  covers-number b r (m ∷ moves) h =
      let s = AnimatedTransform-cover m b cover_depth in
      covers-number b (BoundsAnswer-union_bounds r s) moves (union-keeps (Number rigid) (inl refl) r s h (move-number m b))

  chain-number : (a : ChainAnswer) (b : Bounds3f) → Number rigid (ChainAnswer-refusal a) → CoverNumber (ChainAnswer-cover a b)
  unfolding ChainAnswer-cover Chain-cover
  chain-number (built c) b h = covers-number b (AnimatedTransform-cover c.first b cover_depth) c.rest (move-number c.first b)
  chain-number (refused n) b h = h

  file-number : (bytes : List ℕ) → CoverNumber (MoveFile-cover rigid bytes)
  unfolding MoveFile-cover MoveFile-chain
  file-number bytes =
      let poses = Poses-of_lists (MoveFile-poses bytes) in
      let building = building-number (building-numbered rigid poses).number (chain-affine rigid poses (poses-affine bytes)) in
      cond-keeps CoverNumber (eqb (MoveFile-read bytes).refusal 0) _ _ (chain-number (Chain-new rigid poses) (MoveFile-box bytes) building) (read_number bytes)

  pub file-numbered : (bytes : List ℕ) → BoundsAnswer-Numbered (numbers rigid) (MoveFile-cover rigid bytes)
  file-numbered bytes = record { number = file-number bytes; none = file-answered rigid bytes }
