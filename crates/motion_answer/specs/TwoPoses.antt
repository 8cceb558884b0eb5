-- A file with two lines of poses, built as plain, is answered as by document 01, but for times that don't rise strictly: `TwoPoseFile`, the statement of `two-pose-file`.
use Rattle.std.specs.Prelude.{ℕ, ◌≡◌, false, not, cond, List, [], ◌∷◌, T, eqb, Float}
use Rattle.std.specs.Float.Ieee.{lt}
use Rattle.bounds3.specs.declared.Bounds3f.{Bounds3f}
use Rattle.transform.specs.declared.BoundsAnswer.{BoundsAnswer}
use Rattle.transform.specs.declared.BoundsAnswer.TheVariants.{Refused}
use Rattle.lent_arrays.specs.pose_pair.Pose.{Pose-is_finite, Pose-is_padded}
use Rattle.chain_build.specs.animated_transform.New.{AnimatedTransformAnswer}
use Rattle.chain_build.specs.animated_transform.New.{AnimatedTransform-new}
use Rattle.chain_build.specs.motion_cover.Cover.{AnimatedTransform-cover}
use Rattle.chain_build.specs.motion_chain.Chain.{every}
use Rattle.lent_arrays.specs.Arrays.{Pose-of_list}
use Rattle.motion_text.specs.motion_file.Layout.{MoveFile-box, MoveFile-poses}
use Rattle.motion_answer.specs.Answer.{cover_depth, MoveFile-cover}

-- document 01's program: building's number, or the cover of the box under the move
abbrev pub move_cover : AnimatedTransformAnswer → Bounds3f → BoundsAnswer
move_cover move b = cond (eqb move.refusal 0) (AnimatedTransform-cover move.value b cover_depth) (Refused move.refusal)

pub record TwoPoseFile (bytes : List ℕ) (start end : List Float) : Type 0 where
  pub rising : MoveFile-poses bytes ≡ start ∷ end ∷ [] → T (lt (Pose-of_list start).time (Pose-of_list end).time)
      → MoveFile-cover false bytes ≡ move_cover (AnimatedTransform-new false (Pose-of_list start) (Pose-of_list end)) (MoveFile-box bytes)
  -- "times that don't rise strictly are 12", once 1 and 16 are judged; a file's bottom rows are right
  pub not-rising : MoveFile-poses bytes ≡ start ∷ end ∷ [] → T (every Pose-is_finite (Pose-of_list start ∷ Pose-of_list end ∷ []))
      → T (every Pose-is_padded (Pose-of_list start ∷ Pose-of_list end ∷ []))
      → T (not (lt (Pose-of_list start).time (Pose-of_list end).time)) → MoveFile-cover false bytes ≡ Refused 12
