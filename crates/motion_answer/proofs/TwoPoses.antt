-- A file with two lines of poses, from a chain of two poses: `two-pose-file`.
use Prim.Native.Nat.{ℕ}
use mathlib.Core.Path.{◌≡◌, refl, sym, ap, ◌∙◌}
use mathlib.Core.Bool.{Bool, true, false, not, cond}
use mathlib.Core.List.{List, [], ◌∷◌, map}
use native.Mathlib.Omega.{arith}
use borrow.Author.Tests.{eqb-true, eqb-false}
use lib.Dec.{T, eqb}
use lib.Ieee.{Float, eq, of_bits, lt}
use lib.Ieee.Bits.{is_true}
use lib.ListN.{length, take, drop}
use Rattle.bounds3.specs.declared.Bounds3f.{Bounds3f}
use Rattle.transform.specs.declared.BoundsAnswer.{BoundsAnswer}
use Rattle.transform.specs.declared.BoundsAnswer.TheVariants.{Refused}
use Rattle.lent_arrays.specs.pose_pair.declared.Pose.{Pose}
use Rattle.chain_build.specs.animated_transform.New.{AnimatedTransform-new}
use Rattle.chain_build.specs.motion_chain.Chain.{ChainAnswer, built, refused, Chain-new}
use Rattle.chain_build.specs.motion_chain.TwoPoses.{Chain-single, Checked}
use Rattle.chain_build.proofs.motion_chain.TwoPoses.{two-poses, single-move}
use Rattle.lent_arrays.specs.Arrays.{Pose-of_list}
use Rattle.chain_build.specs.chain_poses.Poses.{Poses-of_lists}
use Rattle.motion_text.specs.motion_file.Text.{line_feed, split}
use Rattle.motion_text.specs.motion_file.Layout.{pose_lines, pose_of, keeps_layout, MoveFile-departs, MoveFile-contents, MoveFile-read, MoveFile-box, MoveFile-poses}
use Rattle.motion_answer.specs.Answer.{cover_depth, ChainAnswer-cover, MoveFile-chain, MoveFile-cover}
use Rattle.motion_answer.specs.TwoPoses.{move_cover, TwoPoseFile}
use Rattle.motion_answer.proofs.Built.{poses-affine}

-- ---- a chain of two poses
module _ (p q : Pose) (b : Bounds3f) where
  rising-cover : T (lt p.time q.time) → ChainAnswer-cover (Chain-new false (p ∷ q ∷ [])) b ≡ move_cover (AnimatedTransform-new false p q) b
  unfolding ChainAnswer-cover
  rising-cover h = go (eqb n 0) refl
    where
      n : ℕ
      n = (AnimatedTransform-new false p q).refusal

      go : (t : Bool) → eqb n 0 ≡ t → ChainAnswer-cover (Chain-new false (p ∷ q ∷ [])) b ≡ move_cover (AnimatedTransform-new false p q) b
      go true e = rw ((two-poses false p q).same_move h (eqb-true n 0 e), e) ((single-move (AnimatedTransform-new false p q).value).cover b cover_depth)
      go false e = rw ((two-poses false p q).same-refusal h (eqb-false n 0 e), e)

  falling-cover : Checked p q → T (not (lt p.time q.time))
      → ChainAnswer-cover (Chain-new false (p ∷ q ∷ [])) b ≡ Refused 12
  unfolding ChainAnswer-cover
  falling-cover checked h = rw ((two-poses false p q).not-rising checked h)

-- ---- a file that has poses keeps the layout
poses-kept : (bytes : List ℕ) (start : List Float) (poses : List (List Float)) → MoveFile-poses bytes ≡ start ∷ poses → (MoveFile-read bytes).refusal ≡ 0
unfolding MoveFile-read MoveFile-poses
poses-kept bytes start poses = go (keeps_layout bytes)
  where
    lines : List (List ℕ)
    lines = split line_feed bytes

    go : (t : Bool) → cond t (map pose_of (take (pose_lines lines) (drop 1 lines))) [] ≡ start ∷ poses
        → (cond t (MoveFile-contents lines) MoveFile-departs).refusal ≡ 0
    go true e = refl
    go false e = let z : ◌≡◌ {A = ℕ} 0 1 = ap none e in absurd (omega (arith, z))
      where
        none : List (List Float) → ℕ
        none [] = 0
        none (x ∷ xs) = 1

pub two-pose-file : (bytes : List ℕ) (start end : List Float) → TwoPoseFile bytes start end
unfolding MoveFile-cover MoveFile-chain Poses-of_lists
two-pose-file bytes start end =
    record {
      rising = λ e h. rw (poses-kept bytes start (end ∷ []) e, e) (rising-cover (Pose-of_list start) (Pose-of_list end) (MoveFile-box bytes) h);
      not-rising = λ e f z h. rw (poses-kept bytes start (end ∷ []) e, e)
          (falling-cover (Pose-of_list start) (Pose-of_list end) (MoveFile-box bytes)
          (record { finite = f; affine = rw e at (poses-affine bytes); padded = z }) h);
    }
