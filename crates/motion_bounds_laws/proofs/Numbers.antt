-- The numbers that a motion box gives are 5, 6, 7 and 9, those of a point's motion 5, 6 and 9, what isn't refused is finite, and the counts
-- are at most 511 for a point and 4,088 for a box: `motion-bounds-numbers`, `bound-point-motion-numbers`, for all structs and arguments.
-- Rests on `moved-point-judged`, on what a search's refusal can be, `axis-zeros-stored`, and on `point-examined`.
use Rattle.std.specs.Prelude.{Ok, Err}
use Prim.Native.Nat.{ℕ}
use mathlib.Core.Path.{◌≡◌, refl}
use mathlib.Core.Bool.{not, ◌||◌}
use mathlib.Core.Logic.{◌⊎◌, inl, inr}
use mathlib.Core.List.{List, [], ◌∷◌}
use lib.Dec.{T, eqb}
use lib.ListN.{get_or}
use lib.Ieee.{Float, nan, of_bits, neg}
use Rattle.motion_bounds.specs.bounds3.declared.Point3f.{Point3f}
use Rattle.motion_bounds.specs.bounds3.declared.Bounds3f.{Bounds3f}
use Rattle.motion_bounds.specs.bounds3.Bounds3f.{Bounds3f-default, Bounds3f-from_point, Bounds3f-corner}
use Rattle.motion_bounds.specs.bounds3.Finite.{Point3f-is_finite, Bounds3f-is_finite}
use Rattle.motion_bounds.proofs.bounds3.Finite.{test-finite, box-finite, union-point-finite, union-finite}
use Rattle.motion_bounds.proofs.control_flow.Loop.{loop-keeps}
use Rattle.motion_bounds.proofs.control_flow.Choice.{cond-keeps}
use Rattle.motion_bounds.specs.transform.declared.BoundsAnswer.{BoundsAnswer}
use Rattle.motion_bounds.specs.transform.declared.BoundsAnswer.TheVariants.{Bounds, Refused}
use Rattle.motion_bounds.specs.transform.Answer.{PointAnswer, OneOf, origin, PointAnswer-Judged, BoundsAnswer-Judged}
use Rattle.motion_bounds.specs.transform.TransformBounds.{BoundsAnswer-from_moved, BoundsAnswer-union_moved}
use Rattle.motion_bounds.proofs.transform.Judged.{transform-point-judged, transform-bounds-judged}
use Rattle.motion_bounds.proofs.transform.Answer.{one-of-wider}
use Rattle.motion_bounds.specs.bounds_query.Query.{Bounds3f-refusal, BoundsAnswer-union_bounds}
use Rattle.motion_bounds.proofs.bounds_query.Numbers.{box-keeps}
use Rattle.motion_bounds.specs.axis_derivative.declared.Derivative.{Derivative}
use Rattle.motion_bounds.specs.pose_steps.declared.PoseConstants.{PoseConstants}
use Rattle.motion_bounds.specs.animated_transform.declared.AnimatedTransform.{AnimatedTransform}
use Rattle.motion_bounds.specs.motion_point.TransformPoint.{AnimatedTransform-constants}
use Rattle.motion_bounds.proofs.motion_point.Query.{moved-point-judged}
use Rattle.motion_bounds.specs.MotionBounds.{axis_search, point_at, union_zero, union_zeros, all_places, union_axis, point_bounds}
use Rattle.motion_bounds.specs.MotionBounds.{union_corner, union_corners, box_bounds, bound_point_motion, motion_bounds}
use Rattle.motion_bounds.specs.declared.Examined.{Examined}
use Rattle.motion_bounds.specs.Examined.{Examined-AtMost, point_examined, box_examined}
use Rattle.motion_bounds.specs.Answer.{BoundsAnswer-counted, AnimatedTransform-bound_point_motion, AnimatedTransform-motion_bounds}
use Rattle.motion_bounds.proofs.Searched.{axis-zeros-stored, none-examined, point-examined, corners-examined}
use Rattle.motion_bounds_laws.proofs.Ends.{from-ends-union}
use Rattle.motion_bounds_laws.specs.Answer.{BoundsAnswer-Answered, MotionBoundsAnswer-Answered}

-- the numbers that the work can meet
abbrev Worked : BoundsAnswer → Type 0
Worked = BoundsAnswer-Answered (0 ∷ 5 ∷ 9 ∷ [])

-- ---- one step
refused-finite : T (Bounds3f-is_finite (Bounds3f-from_point origin))
unfolding Bounds3f-is_finite Point3f-is_finite of_bits
refused-finite = tt

refused-answered : {numbers : List ℕ} (n : ℕ) → OneOf n numbers → BoundsAnswer-Answered numbers (Refused n)
refused-answered n i = record { number = i; values = refused-finite }

five : {n : ℕ} → (n ≡ 0) ⊎ (n ≡ 5) → OneOf n (0 ∷ 5 ∷ 9 ∷ [])
five (inl e) = inl e
five (inr e) = inr (inl e)

judged-worked : {r : BoundsAnswer} → BoundsAnswer-Judged r → Worked r
judged-worked j = record { number = five j.number; values = j.values }

from-moved-worked : (a : PointAnswer) → PointAnswer-Judged a → Worked (BoundsAnswer-from_moved a)
unfolding BoundsAnswer-from_moved
from-moved-worked (Ok p) j =
    let f = test-finite p j.values in
    record { number = inl refl; values = box-finite (Bounds3f-from_point p) f f }
from-moved-worked (Err n) j = refused-answered n (five j.number)

union-moved-worked : (r : BoundsAnswer) (a : PointAnswer) → Worked r → PointAnswer-Judged a → Worked (BoundsAnswer-union_moved r a)
unfolding BoundsAnswer-union_moved
union-moved-worked (Bounds b) (Ok p) w j = record { number = inl refl; values = union-point-finite b p w.values j.values }
union-moved-worked (Bounds b) (Err n) w j = refused-answered n (five j.number)
union-moved-worked (Refused n) a w j = w

union-worked : (r s : BoundsAnswer) → Worked r → Worked s → Worked (BoundsAnswer-union_bounds r s)
unfolding BoundsAnswer-union_bounds
union-worked (Bounds a) (Bounds b) w v = record { number = inl refl; values = union-finite a b w.values v.values }
union-worked (Bounds a) (Refused n) w v = v
union-worked (Refused n) s w v = w

-- ---- a point's motion
module _ (m : AnimatedTransform) (a : PoseConstants) (p : Point3f) where
  zeros-worked : (zeros : List Float) (n : ℕ) (r : BoundsAnswer) → Worked r → Worked (union_zeros m a p zeros n r)
  unfolding union_zeros union_zero point_at
  zeros-worked zeros n r w =
      loop-keeps (λ _. Worked) (λ k. union_zero m a p (get_or zeros k nan)) n
      (λ k s _ v. union-moved-worked s (point_at m a p (get_or zeros k nan)) v (moved-point-judged m a _ p)) r w

  axis-worked : (d : Derivative) (r : BoundsAnswer) → Worked r → Worked (union_axis all_places m a p d r)
  unfolding union_axis
  axis-worked d (Refused n) w = w
  axis-worked d (Bounds b) w =
      let z = (axis_search a p d).zeros in
      cond-keeps Worked (eqb z.refusal 0) _ _ (zeros-worked z.zeros 8 (Bounds b) w)
      (refused-answered z.refusal (nine (axis-zeros-stored a p d).refusal))
    where
      nine : {n k : ℕ} → (n ≡ 0) ⊎ ((n ≡ 9) × (k ≡ 0)) → OneOf n (0 ∷ 5 ∷ 9 ∷ [])
      nine (inl e) = inl e
      nine (inr (e, _)) = inr (inr (inl e))

  point-worked : Worked (point_bounds all_places m a p)
  unfolding point_bounds
  point-worked =
      let start = transform-point-judged m.start_transform p in
      let end = transform-point-judged m.end_transform p in
      let c = m.coefficients in
      cond-keeps Worked (not m.actually_animated) _ _ (from-moved-worked _ start)
      (axis-worked c.z _ (axis-worked c.y _ (axis-worked c.x _ (rw (from-ends-union _ _) (union-moved-worked _ _ (from-moved-worked _ start) end)))))

-- ---- a box's motion
pub default-finite : T (Bounds3f-is_finite Bounds3f-default)
unfolding Bounds3f-is_finite Point3f-is_finite of_bits neg
default-finite = tt

corners-worked : (m : AnimatedTransform) (a : PoseConstants) (b : Bounds3f) (n : ℕ) → Worked (union_corners all_places m a b n)
unfolding union_corners union_corner
corners-worked m a b n =
    loop-keeps (λ _. Worked) (union_corner all_places m a b) n (λ c r _ w. union-worked r _ w (point-worked m a (Bounds3f-corner b c))) (Bounds Bounds3f-default)
    (record { number = inl refl; values = default-finite })

box-worked : (m : AnimatedTransform) (b : Bounds3f) → Worked (box_bounds all_places m b)
unfolding box_bounds
box-worked m b =
    let start = judged-worked (transform-bounds-judged m.start_transform b) in
    let end = judged-worked (transform-bounds-judged m.end_transform b) in
    cond-keeps Worked (not m.actually_animated) _ _ start
    (cond-keeps Worked (not m.has_rotation) _ _ (union-worked _ _ start end) (corners-worked m (AnimatedTransform-constants m) b 8))

-- ---- the queries
point-motion-answered : (m : AnimatedTransform) (p : Point3f) → BoundsAnswer-Answered (0 ∷ 5 ∷ 6 ∷ 9 ∷ []) (bound_point_motion all_places m p)
unfolding bound_point_motion
point-motion-answered m p =
    let w = point-worked m (AnimatedTransform-constants m) p in
    cond-keeps (BoundsAnswer-Answered (0 ∷ 5 ∷ 6 ∷ 9 ∷ [])) (not (Point3f-is_finite p)) _ _
    (refused-answered 6 (inr (inr (inl refl)))) (record { number = one-of-wider _ (0 ∷ 5 ∷ 9 ∷ []) (0 ∷ 5 ∷ 6 ∷ 9 ∷ []) tt w.number; values = w.values })

motion-answered : (m : AnimatedTransform) (b : Bounds3f) → BoundsAnswer-Answered (0 ∷ 5 ∷ 6 ∷ 7 ∷ 9 ∷ []) (motion_bounds all_places m b)
unfolding motion_bounds
motion-answered m b =
    let w = box-worked m b in
    let numbers : List ℕ = 0 ∷ 5 ∷ 6 ∷ 7 ∷ 9 ∷ [] in
    cond-keeps (BoundsAnswer-Answered numbers) (eqb (Bounds3f-refusal b) 0) _ _
    (record { number = one-of-wider _ (0 ∷ 5 ∷ 9 ∷ []) numbers tt w.number; values = w.values })
    (refused-answered (Bounds3f-refusal b) (box-keeps (λ (n : ℕ). OneOf n numbers) b (inl refl) (inr (inr (inl refl))) (inr (inr (inr (inl refl))))))

-- ---- with their counts
counted-answered : {numbers : List ℕ} {most : ℕ} (r : BoundsAnswer) (e : Examined) → BoundsAnswer-Answered numbers r → Examined-AtMost most e
    → MotionBoundsAnswer-Answered numbers most (BoundsAnswer-counted r e)
unfolding BoundsAnswer-counted
counted-answered (Bounds b) e a l = record { number = a.number; values = a.values; counts = l }
counted-answered (Refused n) e a l = record { number = a.number; values = a.values; counts = none-examined _ }

pub bound-point-motion-numbers : (m : AnimatedTransform) (p : Point3f)
    → MotionBoundsAnswer-Answered (0 ∷ 5 ∷ 6 ∷ 9 ∷ []) 511 (AnimatedTransform-bound_point_motion m p)
bound-point-motion-numbers m p = counted-answered _ _ (point-motion-answered m p) (point-examined m (AnimatedTransform-constants m) p)

box-examined : (m : AnimatedTransform) (b : Bounds3f) → Examined-AtMost 4088 (box_examined m b)
unfolding box_examined
box-examined m b = cond-keeps (Examined-AtMost 4088) (not m.actually_animated || not m.has_rotation) _ _
    (none-examined 4088) (corners-examined m (AnimatedTransform-constants m) b 8)

pub motion-bounds-numbers : (m : AnimatedTransform) (b : Bounds3f)
    → MotionBoundsAnswer-Answered (0 ∷ 5 ∷ 6 ∷ 7 ∷ 9 ∷ []) 4088 (AnimatedTransform-motion_bounds m b)
motion-bounds-numbers m b = counted-answered _ _ (motion-answered m b) (box-examined m b)
