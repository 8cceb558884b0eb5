-- What the steps of the code give where no definition of the motion box names it: one axis joined and what was examined for it (`axis_bounds`),
-- the three axes in turn, and the union of two answers. No definition of the motion box cites them.
use Rattle.std.specs.Prelude.{ℕ}
use Rattle.bounds3.specs.declared.Point3f.{Point3f}
use Rattle.bounds3.specs.Bounds3f.{Bounds3f-union_bounds}
use Rattle.transform.specs.declared.BoundsAnswer.{BoundsAnswer}
use Rattle.transform.specs.declared.BoundsAnswer.TheVariants as bounds
use Rattle.axis_derivative.specs.declared.Derivative.{Derivative}
use Rattle.pose_steps.specs.declared.PoseConstants.{PoseConstants}
use Rattle.animated_transform.specs.declared.AnimatedTransform.{AnimatedTransform}
use Rattle.motion_bounds.specs.declared.AxisBounds.{AxisBounds}
use Rattle.motion_bounds.specs.declared.Examined.{Examined}
use Rattle.motion_bounds.specs.declared.MotionBoundsAnswer.{MotionBoundsAnswer}
use Rattle.motion_bounds.specs.declared.MotionBoundsAnswer.TheVariants.{Bounds, Refused}
use Rattle.motion_bounds.specs.MotionBounds.{all_places, axis_search, union_axis}
use Rattle.motion_bounds.specs.Examined.{Examined-add}

-- after a refusal nothing is examined
abbrev pub axis_examined : PoseConstants → Point3f → Derivative → BoundsAnswer → ℕ
axis_examined a p d (bounds.Bounds b) = (axis_search a p d).examined
axis_examined a p d (bounds.Refused n) = 0

abbrev pub axis_bounds : AnimatedTransform → PoseConstants → Point3f → Derivative → BoundsAnswer → AxisBounds
axis_bounds m a p d r = record { bounds = union_axis all_places m a p d r; examined = axis_examined a p d r }

module _ (m : AnimatedTransform) (a : PoseConstants) (p : Point3f) where
  abbrev pub union_axes : BoundsAnswer → BoundsAnswer
  union_axes r =
      let c = m.coefficients in
      union_axis all_places m a p c.z (union_axis all_places m a p c.y (union_axis all_places m a p c.x r))

  abbrev pub axes_examined : Examined
  axes_examined =
      let c = m.coefficients in
      record { x = (axis_search a p c.x).examined; y = (axis_search a p c.y).examined; z = (axis_search a p c.z).examined }

-- `BoundsAnswer-union_bounds`, with the counts added
unfoldable pub MotionBoundsAnswer-union_bounds : MotionBoundsAnswer → MotionBoundsAnswer → MotionBoundsAnswer
MotionBoundsAnswer-union_bounds (Bounds a e) (Bounds b f) = Bounds (Bounds3f-union_bounds a b) (Examined-add e f)
MotionBoundsAnswer-union_bounds (Bounds a e) (Refused n) = Refused n
MotionBoundsAnswer-union_bounds (Refused n) s = Refused n
