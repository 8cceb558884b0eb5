-- Any move handed in, of either kind, whatever numbers are in it, is built or refused by one of document 01's numbers, 16, or as rigid 17
-- or 18, and so are every query and, with document 02's 12, every file: `EveryAnswer`, on one page. 0 is none: no refusal carries it, and
-- after a refusal every other number is +0 and every yes or no is no. The structs, rows and arguments are all structs, rows and arguments;
-- the search of a motion box, the polar rounds and the slices end because their functions are proved to. The statement of `every-answer`.
use Rattle.std.specs.Prelude.{ℕ, ◌≡◌, Bool, List, [], ◌∷◌, Float, Ok}
use Rattle.run_schedule.specs.matrix4x4.Rows.{Rows}
use Rattle.run_schedule.specs.bounds3.declared.Point3f.{Point3f}
use Rattle.run_schedule.specs.bounds3.declared.Bounds3f.{Bounds3f}
use Rattle.run_schedule.specs.transform.Transform.{TransformAnswer}
use Rattle.run_schedule.specs.transform.Answer.{OneOf}
use Rattle.run_schedule.specs.transform.Transform.{TransformAnswer-refused}
use Rattle.motion_bounds_laws.specs.pose_pair.declared.Pose.{Pose}
use Rattle.motion_bounds_laws.specs.animated_transform.declared.AnimatedTransform.{AnimatedTransform}
use Rattle.motion_bounds_laws.specs.animated_transform.New.{AnimatedTransformAnswer}
use Rattle.motion_bounds_laws.specs.animated_transform.New.{AnimatedTransformAnswer-refused, AnimatedTransform-new}
use Rattle.motion_bounds_laws.specs.animated_transform.Numbers.{kind_numbers}
use Rattle.motion_bounds_laws.specs.motion_point.TransformPoint.{AnimatedTransform-transform_point}
use Rattle.motion_bounds_laws.specs.motion_point.Answer.{PointAnswer-Numbered}
use Rattle.interpolate_kept.specs.motion_rows.TransformPoint.{Rows-transform_point}
use Rattle.interpolate_kept.specs.pad_query.PadQuery.{PadAnswer, PadAnswer-refusal, PadAnswer-pad, AnimatedTransform-pad, Rows-pad}
use Rattle.interpolate_kept.specs.interpolation.Interpolate.{AnimatedTransform-interpolate}
use Rattle.interpolate_kept.specs.Kept.{Rows-interpolate}
use Rattle.motion_bounds_laws.specs.motion_bounds.declared.MotionBoundsAnswer.{MotionBoundsAnswer}
use Rattle.motion_bounds_laws.specs.motion_bounds.declared.MotionBoundsAnswer.TheVariants.{Bounds}
use Rattle.motion_bounds_laws.specs.motion_bounds.Answer.{MotionBoundsAnswer-refusal, MotionBoundsAnswer-bounds, MotionBoundsAnswer-examined}
use Rattle.motion_bounds_laws.specs.motion_bounds.Answer.{AnimatedTransform-bound_point_motion, AnimatedTransform-motion_bounds}
use Rattle.refused_run.specs.motion_cover.Cover.{AnimatedTransform-cover}
use Rattle.refused_run.specs.motion_cover.Answer.{BoundsAnswer-Numbered}
use Rattle.file_rewrite.specs.motion_answer.Answer.{MoveFile-cover}

-- ---- an answer and its number
-- Of a point it is `PointAnswer-Numbered` of motion_point, of a box `BoundsAnswer-Numbered` of motion_cover: the number is one of those listed, and an answer
-- whose number is 0 is a moved point, or a box.
-- Of a pad likewise: its number is one of those listed, and an answer whose number is 0 is a pad. (After a refusal the pad is +0, by `PadAnswer-pad`.)
pub record PadAnswer-Numbered (numbers : List ℕ) (a : PadAnswer) : Type 0 where
  pub number : OneOf (PadAnswer-refusal a) numbers
  pub none : PadAnswer-refusal a ≡ 0 → a ≡ Ok (PadAnswer-pad a)

-- Of a motion box likewise: its number is one of those listed, and where it is 0 there is a box with its counts. (After
-- a refusal the box is +0 and the counts are 0, by `MotionBoundsAnswer-bounds` and `MotionBoundsAnswer-examined`.)
pub record MotionBoundsAnswer-Numbered (numbers : List ℕ) (a : MotionBoundsAnswer) : Type 0 where
  pub number : OneOf (MotionBoundsAnswer-refusal a) numbers
  pub none : MotionBoundsAnswer-refusal a ≡ 0 → a ≡ Bounds (MotionBoundsAnswer-bounds a) (MotionBoundsAnswer-examined a)

-- Of a struct with its number beside it: an answer whose number is not 0 is the refused one with that number, +0 and no throughout.
pub record TransformAnswer-Numbered (numbers : List ℕ) (a : TransformAnswer) : Type 0 where
  pub number : OneOf a.refusal numbers
  pub refused : (a.refusal ≡ 0 → ⊥) → a ≡ TransformAnswer-refused a.refusal

pub record AnimatedTransformAnswer-Numbered (numbers : List ℕ) (a : AnimatedTransformAnswer) : Type 0 where
  pub number : OneOf a.refusal numbers
  pub refused : (a.refusal ≡ 0 → ⊥) → a ≡ AnimatedTransformAnswer-refused a.refusal

-- ---- document 01, Refusals
pub record EveryAnswer : Type 0 where
  pub building : (rigid : Bool) (start end : Pose)
      → AnimatedTransformAnswer-Numbered (0 ∷ 1 ∷ 2 ∷ 3 ∷ 4 ∷ 5 ∷ 16 ∷ kind_numbers rigid) (AnimatedTransform-new rigid start end)
  pub point : (m : AnimatedTransform) (time : Float) (p : Point3f) → PointAnswer-Numbered (0 ∷ 5 ∷ 6 ∷ []) (AnimatedTransform-transform_point m time p)
  -- the same query of a kept move, whatever its rows
  pub rows-point : (rows : Rows) (time : Float) (p : Point3f) → PointAnswer-Numbered (0 ∷ 5 ∷ 6 ∷ []) (Rows-transform_point rows time p)
  pub pad : (m : AnimatedTransform) (time : Float) → PadAnswer-Numbered (0 ∷ 5 ∷ 6 ∷ []) (AnimatedTransform-pad m time)
  pub rows-pad : (rows : Rows) (time : Float) → PadAnswer-Numbered (0 ∷ 5 ∷ 6 ∷ []) (Rows-pad rows time)
  pub interpolate : (m : AnimatedTransform) (time : Float) → TransformAnswer-Numbered (0 ∷ 4 ∷ 5 ∷ 6 ∷ []) (AnimatedTransform-interpolate m time)
  pub rows-interpolate : (rows : Rows) (time : Float) → TransformAnswer-Numbered (0 ∷ 4 ∷ 5 ∷ 6 ∷ []) (Rows-interpolate rows time)
  pub point-motion : (m : AnimatedTransform) (p : Point3f) → MotionBoundsAnswer-Numbered (0 ∷ 5 ∷ 6 ∷ 9 ∷ []) (AnimatedTransform-bound_point_motion m p)
  pub motion : (m : AnimatedTransform) (b : Bounds3f) → MotionBoundsAnswer-Numbered (0 ∷ 5 ∷ 6 ∷ 7 ∷ 9 ∷ []) (AnimatedTransform-motion_bounds m b)
  pub cover : (m : AnimatedTransform) (b : Bounds3f) (depth : ℕ) → BoundsAnswer-Numbered (0 ∷ 5 ∷ 6 ∷ 7 ∷ 8 ∷ 10 ∷ []) (AnimatedTransform-cover m b depth)
  -- a file, whatever its bytes: its poses are a chain, its bottom rows are 0 0 0 1, it is asked at depth 10 and searches for no zeros, so that 2, 8 and 9 are
  -- not among its numbers
  pub file : (rigid : Bool) (bytes : List ℕ)
      → BoundsAnswer-Numbered (0 ∷ 1 ∷ 3 ∷ 4 ∷ 5 ∷ 6 ∷ 7 ∷ 10 ∷ 11 ∷ 12 ∷ 16 ∷ kind_numbers rigid) (MoveFile-cover rigid bytes)
