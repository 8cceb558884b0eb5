-- The motion box, pbrt's `bound_point_motion` and `motion_bounds`, judged: each moved point is judged as it is met (5), and the ninth zero of an axis (9)
-- before the points at that axis's zeros. The five terms at a point are not judged, and the time of a zero may be an infinity, which means a stored pose.
-- Definitions only. `places` says how many places of the zero array are joined: all eight in 000, the stored ones in the book Physically Based Rendering,
-- third edition.
use Rattle.std.specs.Prelude.{ℕ, not, cond, List, eqb, get_or, Float, Ok, Err}
use Rattle.std.specs.Float.{nan}
use Rattle.float32.specs.Operators.{◌⊕◌, ◌⊗◌}
use Rattle.float32.specs.Lerp.{lerp}
use Rattle.bounds3.specs.declared.Point3f.{Point3f}
use Rattle.bounds3.specs.declared.Bounds3f.{Bounds3f}
use Rattle.bounds3.specs.Bounds3f.{Bounds3f-default, Bounds3f-from_points, Bounds3f-corner}
use Rattle.bounds3.specs.Finite.{Point3f-is_finite}
use Rattle.transform.specs.control_flow.Loop.{loop}
use Rattle.transform.specs.Answer.{PointAnswer}
use Rattle.transform.specs.declared.BoundsAnswer.{BoundsAnswer}
use Rattle.transform.specs.declared.BoundsAnswer.TheVariants.{Bounds, Refused}
use Rattle.transform.specs.TransformPoint.{Transform-transform_point}
use Rattle.transform.specs.TransformBounds.{BoundsAnswer-from_moved, BoundsAnswer-union_moved, Transform-transform_bounds}
use Rattle.bounds_query.specs.Query.{Bounds3f-refusal, BoundsAnswer-union_bounds}
use Rattle.axis_derivative.specs.declared.DerivativeTerm.{DerivativeTerm}
use Rattle.axis_derivative.specs.declared.Derivative.{Derivative}
use Rattle.zero_list.specs.declared.Zeros.{Zeros}
use Rattle.zero_search.specs.declared.Search.{Search}
use Rattle.zero_search.specs.Search.{interval_find_zeros}
use Rattle.pose_steps.specs.declared.PoseConstants.{PoseConstants}
use Rattle.animated_transform.specs.declared.AnimatedTransform.{AnimatedTransform}
use Rattle.motion_point.specs.TransformPoint.{AnimatedTransform-constants, AnimatedTransform-moved_point}

-- `DerivativeTerm::eval`
unfoldable pub DerivativeTerm-eval : DerivativeTerm → Point3f → Float
DerivativeTerm-eval k p = k.kc ⊕ k.kx ⊗ p.x ⊕ k.ky ⊗ p.y ⊕ k.kz ⊗ p.z

-- `Bounds3f::from_points` of the two moved points: the first refusal stands
unfoldable pub BoundsAnswer-from_ends : PointAnswer → PointAnswer → BoundsAnswer
BoundsAnswer-from_ends (Ok p1) (Ok p2) = Bounds (Bounds3f-from_points p1 p2)
BoundsAnswer-from_ends (Ok p1) (Err n) = Refused n
BoundsAnswer-from_ends (Err n) a = Refused n

-- 000's `for item in &zeros`: all eight, of which the unused are 0.0
abbrev pub all_places : Zeros → ℕ
all_places z = 8

-- the book's loop, below the count of zeros
abbrev pub stored_places : Zeros → ℕ
stored_places z = z.count

-- the search along an axis at a point, theta being acos(clamp(r[0].dot(r[1]), -1.0, 1.0))
unfoldable pub axis_search : PoseConstants → Point3f → Derivative → Search
axis_search a p d =
    interval_find_zeros (DerivativeTerm-eval d.c1 p) (DerivativeTerm-eval d.c2 p) (DerivativeTerm-eval d.c3 p) (DerivativeTerm-eval d.c4 p)
    (DerivativeTerm-eval d.c5 p) a.theta

module _ (m : AnimatedTransform) (a : PoseConstants) (p : Point3f) where
  -- let pz = self.transform_point(lerp(*item, self.start_time, self.end_time), p)
  unfoldable pub point_at : Float → PointAnswer
  point_at item = AnimatedTransform-moved_point m a (lerp item m.start_time m.end_time) p

  -- bounds.union_point(&pz)
  unfoldable pub union_zero : Float → BoundsAnswer → BoundsAnswer
  union_zero item r = BoundsAnswer-union_moved r (point_at item)

  -- `for item in &zeros`, the first n of them
  unfoldable pub union_zeros : List Float → ℕ → BoundsAnswer → BoundsAnswer
  union_zeros zeros = loop (λ k. union_zero (get_or zeros k nan))

module _ (places : Zeros → ℕ) (m : AnimatedTransform) (a : PoseConstants) where
  -- the body of `for c in 0..3`
  unfoldable pub union_axis : Point3f → Derivative → BoundsAnswer → BoundsAnswer
  union_axis p d (Refused n) = Refused n
  union_axis p d (Bounds b) =
      let z = (axis_search a p d).zeros in
      cond (eqb z.refusal 0) (union_zeros m a p z.zeros (places z) (Bounds b)) (Refused z.refusal)

  -- the work of `bound_point_motion`
  unfoldable pub point_bounds : Point3f → BoundsAnswer
  point_bounds p =
      let start = Transform-transform_point m.start_transform p in
      let end = Transform-transform_point m.end_transform p in
      let c = m.coefficients in
      cond (not m.actually_animated) (BoundsAnswer-from_moved start)
      (union_axis p c.z (union_axis p c.y (union_axis p c.x (BoundsAnswer-from_ends start end))))

  -- bounds.union_bounds(&self.bound_point_motion(&b.corner(i)))
  unfoldable pub union_corner : Bounds3f → ℕ → BoundsAnswer → BoundsAnswer
  union_corner b i r = BoundsAnswer-union_bounds r (point_bounds (Bounds3f-corner b i))

  -- `for i in 0..8`, the first n of them
  unfoldable pub union_corners : Bounds3f → ℕ → BoundsAnswer
  union_corners b n = loop (union_corner b) n (Bounds Bounds3f-default)

module _ (places : Zeros → ℕ) (m : AnimatedTransform) where
  -- the work of `motion_bounds`
  unfoldable pub box_bounds : Bounds3f → BoundsAnswer
  box_bounds b =
      let start = Transform-transform_bounds m.start_transform b in
      let end = Transform-transform_bounds m.end_transform b in
      cond (not m.actually_animated) start
      (cond (not m.has_rotation) (BoundsAnswer-union_bounds start end) (union_corners places m (AnimatedTransform-constants m) b 8))

  -- document 01, Refusals: 6 where "a coordinate is not finite"
  unfoldable pub bound_point_motion : Point3f → BoundsAnswer
  bound_point_motion p = cond (not (Point3f-is_finite p)) (Refused 6) (point_bounds places m (AnimatedTransform-constants m) p)

  -- document 01, Refusals: 6 and 7 of the box, in this order
  unfoldable pub motion_bounds : Bounds3f → BoundsAnswer
  motion_bounds b = let n = Bounds3f-refusal b in cond (eqb n 0) (box_bounds b) (Refused n)
