-- The answers about a motion box: the box with its counts, or a refusal, which carries none.
-- `AnimatedTransform-bound_point_motion` and `AnimatedTransform-motion_bounds` are those of 000. Definitions only.
use Rattle.std.specs.Prelude.{ℕ}
use Rattle.bounds3.specs.declared.Point3f.{Point3f}
use Rattle.bounds3.specs.declared.Bounds3f.{Bounds3f}
use Rattle.bounds3.specs.Bounds3f.{Bounds3f-from_point}
use Rattle.transform.specs.declared.BoundsAnswer.{BoundsAnswer}
use Rattle.transform.specs.declared.BoundsAnswer.TheVariants as bounds
use Rattle.transform.specs.Answer.{origin}
use Rattle.animated_transform.specs.declared.AnimatedTransform.{AnimatedTransform}
use Rattle.motion_point.specs.TransformPoint.{AnimatedTransform-constants}
use Rattle.motion_bounds.specs.declared.Examined.{Examined}
use Rattle.motion_bounds.specs.declared.MotionBoundsAnswer.{MotionBoundsAnswer}
use Rattle.motion_bounds.specs.declared.MotionBoundsAnswer.TheVariants.{Bounds, Refused}
use Rattle.motion_bounds.specs.MotionBounds.{all_places, bound_point_motion, motion_bounds}
use Rattle.motion_bounds.specs.Examined.{Examined-none, point_examined, box_examined}

-- ---- number and values of an answer: 0 where nothing is refused, every value +0 and every count 0 where something is
abbrev pub MotionBoundsAnswer-refusal : MotionBoundsAnswer → ℕ
MotionBoundsAnswer-refusal (Bounds b e) = 0
MotionBoundsAnswer-refusal (Refused n) = n

abbrev pub MotionBoundsAnswer-bounds : MotionBoundsAnswer → Bounds3f
MotionBoundsAnswer-bounds (Bounds b e) = b
MotionBoundsAnswer-bounds (Refused n) = Bounds3f-from_point origin

abbrev pub MotionBoundsAnswer-examined : MotionBoundsAnswer → Examined
MotionBoundsAnswer-examined (Bounds b e) = e
MotionBoundsAnswer-examined (Refused n) = Examined-none

-- ---- an answer with and without its counts
-- document 02: "A refusal 9 carries no counts", nor does any other
unfoldable pub BoundsAnswer-counted : BoundsAnswer → Examined → MotionBoundsAnswer
BoundsAnswer-counted (bounds.Bounds b) e = Bounds b e
BoundsAnswer-counted (bounds.Refused n) e = Refused n

abbrev pub MotionBoundsAnswer-uncounted : MotionBoundsAnswer → BoundsAnswer
MotionBoundsAnswer-uncounted (Bounds b e) = bounds.Bounds b
MotionBoundsAnswer-uncounted (Refused n) = bounds.Refused n

-- ---- `bound_point_motion` and `motion_bounds` of 000
abbrev pub AnimatedTransform-bound_point_motion : AnimatedTransform → Point3f → MotionBoundsAnswer
AnimatedTransform-bound_point_motion m p = BoundsAnswer-counted (bound_point_motion all_places m p) (point_examined m (AnimatedTransform-constants m) p)

abbrev pub AnimatedTransform-motion_bounds : AnimatedTransform → Bounds3f → MotionBoundsAnswer
AnimatedTransform-motion_bounds m b = BoundsAnswer-counted (motion_bounds all_places m b) (box_examined m b)
