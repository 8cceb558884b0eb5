-- No motion box is refused with 0: `point-motion-nonzero`, `motion-nonzero`; of a point query it is in `transform-point-numbered` of motion_point, of a cover
-- `cover-nonzero` of motion_cover. A number is refused only after the test that it isn't 0, and a union keeps one of its parts' numbers.
use Rattle.std.specs.Prelude.{Ok, Err}
use Prim.Native.Nat.{ℕ}
use mathlib.Core.Path.{◌≡◌, refl}
use mathlib.Core.Bool.{not}
use mathlib.Core.List.{List}
use native.Mathlib.Omega.{arith}
use lib.ListN.{get_or}
use lib.Ieee.{Float, nan}
use Rattle.run_schedule.specs.bounds3.declared.Point3f.{Point3f}
use Rattle.run_schedule.specs.bounds3.declared.Bounds3f.{Bounds3f}
use Rattle.run_schedule.specs.bounds3.Bounds3f.{Bounds3f-default, Bounds3f-corner}
use Rattle.run_schedule.specs.bounds3.Finite.{Point3f-is_finite}
use Rattle.run_schedule.proofs.control_flow.Loop.{loop-keeps}
use Rattle.run_schedule.proofs.control_flow.Choice.{cond-keeps}
use Rattle.run_schedule.specs.transform.declared.Transform.{Transform}
use Rattle.run_schedule.specs.transform.declared.BoundsAnswer.{BoundsAnswer}
use Rattle.run_schedule.specs.transform.declared.BoundsAnswer.TheVariants as bounds
use Rattle.run_schedule.specs.transform.TransformBounds as transform
use Rattle.run_schedule.specs.transform.Answer.{PointAnswer, OneOf}
use Rattle.run_schedule.specs.bounds_query.Query.{Bounds3f-refusal}
use Rattle.motion_bounds_laws.specs.axis_derivative.declared.Derivative.{Derivative}
use Rattle.motion_bounds_laws.specs.pose_steps.declared.PoseConstants.{PoseConstants}
use Rattle.motion_bounds_laws.specs.animated_transform.declared.AnimatedTransform.{AnimatedTransform}
use Rattle.motion_bounds_laws.specs.motion_point.TransformPoint.{AnimatedTransform-constants}
use Rattle.motion_bounds_laws.proofs.motion_point.NonZero.{PointAnswer-NonZero, transform-point-nonzero, moved-point-nonzero}
use Rattle.motion_bounds_laws.specs.motion_bounds.MotionBounds.{BoundsAnswer-from_ends, all_places, axis_search, point_at, union_zero, union_zeros, union_axis}
use Rattle.motion_bounds_laws.specs.motion_bounds.MotionBounds.{point_bounds, union_corner, union_corners, box_bounds, bound_point_motion, motion_bounds}
use Rattle.motion_bounds_laws.specs.motion_bounds.declared.Examined.{Examined}
use Rattle.motion_bounds_laws.specs.motion_bounds.Answer.{MotionBoundsAnswer-refusal, BoundsAnswer-counted}
use Rattle.refused_run.proofs.motion_cover.NonZero.{BoundsAnswer-NonZero, tested-nonzero, union-nonzero}
use Rattle.refusal_numbers.specs.Numbers.{MotionBoundsAnswer-Numbered}

-- ---- boxes
from-moved-nonzero : (a : PointAnswer) → PointAnswer-NonZero a → BoundsAnswer-NonZero (transform.BoundsAnswer-from_moved a)
unfolding transform.BoundsAnswer-from_moved
from-moved-nonzero (Ok p) h = tt
from-moved-nonzero (Err n) h = h

union-moved-nonzero : (r : BoundsAnswer) (a : PointAnswer) → BoundsAnswer-NonZero r
    → PointAnswer-NonZero a → BoundsAnswer-NonZero (transform.BoundsAnswer-union_moved r a)
unfolding transform.BoundsAnswer-union_moved
union-moved-nonzero (bounds.Bounds b) (Ok p) h k = tt
union-moved-nonzero (bounds.Bounds b) (Err n) h k = k
union-moved-nonzero (bounds.Refused n) a h k = h

from-ends-nonzero : (a b : PointAnswer) → PointAnswer-NonZero a → PointAnswer-NonZero b → BoundsAnswer-NonZero (BoundsAnswer-from_ends a b)
unfolding BoundsAnswer-from_ends
from-ends-nonzero (Ok p) (Ok q) h k = tt
from-ends-nonzero (Ok p) (Err n) h k = k
from-ends-nonzero (Err n) b h k = h

-- ---- a stored transform over a box, corner by corner
corner-nonzero : (t : Transform) (r : BoundsAnswer) (x y z : Float) → BoundsAnswer-NonZero r → BoundsAnswer-NonZero (transform.union_corner t r x y z)
unfolding transform.union_corner
corner-nonzero t r x y z h = union-moved-nonzero r _ h (transform-point-nonzero t (record { x = x; y = y; z = z }))

transform-bounds-nonzero : (t : Transform) (b : Bounds3f) → BoundsAnswer-NonZero (transform.Transform-transform_bounds t b)
unfolding transform.Transform-transform_bounds
transform-bounds-nonzero t b =
    corner-nonzero t _ _ _ _ (corner-nonzero t _ _ _ _
    (corner-nonzero t _ _ _ _ (corner-nonzero t _ _ _ _ (corner-nonzero t _ _ _ _ (corner-nonzero t _ _ _ _ (corner-nonzero t _ _ _ _
    (from-moved-nonzero _ (transform-point-nonzero t b.p_min))))))))

-- ---- the motion box
zeros-nonzero : (m : AnimatedTransform) (a : PoseConstants) (p : Point3f) (zeros : List Float) (n : ℕ) (r : BoundsAnswer)
    → BoundsAnswer-NonZero r → BoundsAnswer-NonZero (union_zeros m a p zeros n r)
unfolding union_zeros
zeros-nonzero m a p zeros n = loop-keeps (λ _. BoundsAnswer-NonZero) (λ k. union_zero m a p (get_or zeros k nan)) n (λ k r _ h. one (get_or zeros k nan) r h)
  where
    one : (x : Float) (r : BoundsAnswer) → BoundsAnswer-NonZero r → BoundsAnswer-NonZero (union_zero m a p x r)
    one x r h = unfold union_zero point_at in union-moved-nonzero r _ h (moved-point-nonzero m a _ p)

axis-nonzero : (m : AnimatedTransform) (a : PoseConstants) (p : Point3f) (d : Derivative) (r : BoundsAnswer)
    → BoundsAnswer-NonZero r → BoundsAnswer-NonZero (union_axis all_places m a p d r)
unfolding union_axis
axis-nonzero m a p d (bounds.Refused n) h = h
axis-nonzero m a p d (bounds.Bounds b) h = let z = (axis_search a p d).zeros in
    tested-nonzero z.refusal _ (zeros-nonzero m a p z.zeros 8 (bounds.Bounds b) tt)

point-bounds-nonzero : (m : AnimatedTransform) (a : PoseConstants) (p : Point3f) → BoundsAnswer-NonZero (point_bounds all_places m a p)
unfolding point_bounds
point-bounds-nonzero m a p =
    let c = m.coefficients in
    let start = transform-point-nonzero m.start_transform p in
    cond-keeps BoundsAnswer-NonZero (not m.actually_animated) _ _ (from-moved-nonzero _ start)
    (axis-nonzero m a p c.z _
    (axis-nonzero m a p c.y _ (axis-nonzero m a p c.x _ (from-ends-nonzero _ _ start (transform-point-nonzero m.end_transform p)))))

corners-nonzero : (m : AnimatedTransform) (a : PoseConstants) (b : Bounds3f) (n : ℕ) → BoundsAnswer-NonZero (union_corners all_places m a b n)
unfolding union_corners
corners-nonzero m a b n = loop-keeps (λ _. BoundsAnswer-NonZero) (union_corner all_places m a b) n (λ k r _ h. one k r h) (bounds.Bounds Bounds3f-default) tt
  where
    one : (k : ℕ) (r : BoundsAnswer) → BoundsAnswer-NonZero r → BoundsAnswer-NonZero (union_corner all_places m a b k r)
    one k r h = unfold union_corner in union-nonzero r _ h (point-bounds-nonzero m a (Bounds3f-corner b k))

box-bounds-nonzero : (m : AnimatedTransform) (b : Bounds3f) → BoundsAnswer-NonZero (box_bounds all_places m b)
unfolding box_bounds
box-bounds-nonzero m b =
    let start = transform-bounds-nonzero m.start_transform b in
    cond-keeps BoundsAnswer-NonZero (not m.actually_animated) _ _ start
    (cond-keeps BoundsAnswer-NonZero (not m.has_rotation) _ _
    (union-nonzero _ _ start (transform-bounds-nonzero m.end_transform b)) (corners-nonzero m (AnimatedTransform-constants m) b 8))

pub point-motion-nonzero : (m : AnimatedTransform) (p : Point3f) → BoundsAnswer-NonZero (bound_point_motion all_places m p)
unfolding bound_point_motion
point-motion-nonzero m p = cond-keeps BoundsAnswer-NonZero (not (Point3f-is_finite p)) (bounds.Refused 6) _
    (λ e. absurd (omega (arith, e))) (point-bounds-nonzero m (AnimatedTransform-constants m) p)

pub motion-nonzero : (m : AnimatedTransform) (b : Bounds3f) → BoundsAnswer-NonZero (motion_bounds all_places m b)
unfolding motion_bounds
motion-nonzero m b = tested-nonzero (Bounds3f-refusal b) _ (box-bounds-nonzero m b)

-- ---- with its counts
pub counted-numbered : {numbers : List ℕ} (r : BoundsAnswer) (e : Examined)
    → BoundsAnswer-NonZero r → OneOf (MotionBoundsAnswer-refusal (BoundsAnswer-counted r e)) numbers
    → MotionBoundsAnswer-Numbered numbers (BoundsAnswer-counted r e)
unfolding BoundsAnswer-counted
counted-numbered (bounds.Bounds b) e h k = record { number = k; none = λ z. refl }
counted-numbered (bounds.Refused n) e h k = record { number = k; none = λ z. absurd (h z) }
