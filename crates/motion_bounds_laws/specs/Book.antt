-- The motion box by the rule of the book Physically Based Rendering, third edition: only the places of the zero array in which a zero is stored are joined.
-- Definitions only.
use Rattle.motion_bounds.specs.bounds3.declared.Point3f.{Point3f}
use Rattle.motion_bounds.specs.bounds3.declared.Bounds3f.{Bounds3f}
use Rattle.motion_bounds.specs.transform.declared.BoundsAnswer.{BoundsAnswer}
use Rattle.motion_bounds.specs.animated_transform.declared.AnimatedTransform.{AnimatedTransform}
use Rattle.motion_bounds.specs.MotionBounds.{stored_places, bound_point_motion, motion_bounds}

abbrev pub Book-bound_point_motion : AnimatedTransform → Point3f → BoundsAnswer
Book-bound_point_motion = bound_point_motion stored_places

abbrev pub Book-motion_bounds : AnimatedTransform → Bounds3f → BoundsAnswer
Book-motion_bounds = motion_bounds stored_places
