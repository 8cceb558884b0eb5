-- What is promised of every answer about a motion box, `MotionBoundsAnswer-Answered`: the statement of
-- `bound-point-motion-numbers` and `motion-bounds-numbers`; of its box alone, `BoundsAnswer-Answered`. Definitions only.
use Rattle.std.specs.Prelude.{ℕ, List, T}
use Rattle.motion_bounds.specs.bounds3.Finite.{Bounds3f-is_finite}
use Rattle.motion_bounds.specs.transform.declared.BoundsAnswer.{BoundsAnswer}
use Rattle.motion_bounds.specs.transform.Answer.{OneOf, BoundsAnswer-refusal, BoundsAnswer-bounds}
use Rattle.motion_bounds.specs.declared.MotionBoundsAnswer.{MotionBoundsAnswer}
use Rattle.motion_bounds.specs.Examined.{Examined-AtMost}
use Rattle.motion_bounds.specs.Answer.{MotionBoundsAnswer-refusal, MotionBoundsAnswer-bounds, MotionBoundsAnswer-examined}

-- document 01, Refusals: the number is one of those listed, 0 being none, and an answer that isn't refused is finite
pub record BoundsAnswer-Answered (numbers : List ℕ) (a : BoundsAnswer) : Type 0 where
  pub number : OneOf (BoundsAnswer-refusal a) numbers
  pub values : T (Bounds3f-is_finite (BoundsAnswer-bounds a))

-- and document 02: no count is above `most`
pub record MotionBoundsAnswer-Answered (numbers : List ℕ) (most : ℕ) (a : MotionBoundsAnswer) : Type 0 where
  pub number : OneOf (MotionBoundsAnswer-refusal a) numbers
  pub values : T (Bounds3f-is_finite (MotionBoundsAnswer-bounds a))
  pub counts : Examined-AtMost most (MotionBoundsAnswer-examined a)
