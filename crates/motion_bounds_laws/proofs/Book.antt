-- Joining all eight places of the zero array, as pbrt-rust does, gives the book's box: `bound-point-motion-book`,
-- `motion-bounds-book`, for a built move and every point and box. An unused place is +0 (`interval_find_zeros-stored`),
-- which means the start's point (`point-at-start`), and the box holds that from the first.
use Rattle.std.specs.Prelude.{Ok, Err}
use Prim.Native.Nat.{ℕ, zero, suc, ◌+◌, ◌≤◌}
use mathlib.Core.Path.{◌≡◌, refl, ◌∙◌}
use mathlib.Core.Bool.{Bool, true, false, not, cond}
use mathlib.Core.List.{List}
use mathlib.Core.Logic.{inl, inr}
use native.Mathlib.Nat.{eq-or-lt_of_le}
use native.Mathlib.Omega.{arith}
use lib.Dec.{T, eqb}
use lib.ListN.{get_or}
use lib.Ieee.{Float, nan}
use Rattle.motion_bounds.specs.bounds3.declared.Point3f.{Point3f}
use Rattle.motion_bounds.specs.bounds3.declared.Bounds3f.{Bounds3f}
use Rattle.motion_bounds.specs.bounds3.Bounds3f.{Bounds3f-default, Bounds3f-from_point, Bounds3f-union_point, Bounds3f-corner}
use Rattle.motion_bounds.specs.bounds3.Finite.{Finite, Point3f-is_finite, Bounds3f-is_finite}
use Rattle.motion_bounds.specs.bounds3.Inside.{Inside, Subset}
use Rattle.motion_bounds.proofs.bounds3.Finite.{test-finite}
use Rattle.motion_bounds.proofs.bounds3.Union.{subset-inside, union-inside-left, union-least, union_subset_left, finite-self, inside-subset}
use Rattle.motion_bounds.proofs.bounds3.Union.{union-isotone, from-point-inside, union-point-box, union-point-keeps}
use Rattle.motion_bounds.specs.control_flow.Loop.{loop}
use Rattle.motion_bounds.specs.transform.declared.BoundsAnswer.{BoundsAnswer}
use Rattle.motion_bounds.specs.transform.declared.BoundsAnswer.TheVariants.{Bounds, Refused}
use Rattle.motion_bounds.specs.transform.Answer.{PointAnswer, PointAnswer-Judged, BoundsAnswer-bounds}
use Rattle.motion_bounds.specs.transform.TransformPoint.{Transform-transform_point}
use Rattle.motion_bounds.specs.transform.TransformBounds.{BoundsAnswer-from_moved, BoundsAnswer-union_moved}
use Rattle.motion_bounds.proofs.transform.Judged.{transform-point-judged, transform-bounds-judged}
use Rattle.motion_bounds.specs.bounds_query.Query.{Bounds3f-refusal}
use Rattle.motion_bounds.specs.bounds_query.Same.{BoundsAnswer-Same, same-box, same-refusal}
use Rattle.motion_bounds.proofs.bounds_query.Union.{union-same}
use Rattle.motion_bounds.specs.axis_derivative.declared.Derivative.{Derivative}
use Rattle.motion_bounds.specs.zero_list.declared.Zeros.{Zeros}
use Rattle.motion_bounds.specs.zero_search.Stored.{Stored}
use Rattle.motion_bounds.specs.pose_steps.declared.PoseConstants.{PoseConstants}
use Rattle.motion_bounds.specs.animated_transform.declared.AnimatedTransform.{AnimatedTransform}
use Rattle.motion_bounds.specs.animated_transform.Built.{Built}
use Rattle.motion_bounds.specs.motion_point.TransformPoint.{AnimatedTransform-constants}
use Rattle.motion_bounds.proofs.motion_point.Query.{moved-point-judged}
use Rattle.motion_bounds.specs.MotionBounds.{BoundsAnswer-from_ends, axis_search, point_at, union_zero, union_zeros, all_places, stored_places}
use Rattle.motion_bounds.specs.MotionBounds.{union_axis, point_bounds, union_corner, union_corners, box_bounds, bound_point_motion, motion_bounds}
use Rattle.motion_bounds.specs.declared.Examined.{Examined}
use Rattle.motion_bounds.specs.Examined.{point_examined, box_examined}
use Rattle.motion_bounds.specs.Answer.{BoundsAnswer-counted, MotionBoundsAnswer-uncounted, AnimatedTransform-bound_point_motion, AnimatedTransform-motion_bounds}
use Rattle.motion_bounds.proofs.Searched.{axis-zeros-stored}
use Rattle.motion_bounds_laws.specs.Book.{Book-bound_point_motion, Book-motion_bounds}
use Rattle.motion_bounds_laws.proofs.Ends.{from-ends-union}
use Rattle.motion_bounds_laws.proofs.Numbers.{default-finite}
use Rattle.motion_bounds_laws.proofs.StartTime.{point-at-start}

-- ---- boxes of points
point-subset : {q : Point3f} → Finite q → Subset (Bounds3f-from_point q) (Bounds3f-from_point q)
point-subset f = inside-subset (from-point-inside f)

union-point-isotone : {a b : Bounds3f} (q : Point3f) → Finite q → Subset a b → Subset (Bounds3f-union_point a q) (Bounds3f-union_point b q)
union-point-isotone {a} {b} q f s = rw (union-point-box a q, union-point-box b q) (union-isotone s (point-subset f))

-- ---- the same answers, and boxes that hold the start's point o
data Holding (o : Point3f) : BoundsAnswer → BoundsAnswer → Type 0 where
  boxes : {x y : Bounds3f} → Inside x o → Subset x y → Subset y x → Holding o (Bounds x) (Bounds y)
  refusals : (n : ℕ) → Holding o (Refused n) (Refused n)

module _ {o : Point3f} where
  same : {r s : BoundsAnswer} → Holding o r s → BoundsAnswer-Same r s
  same (boxes i s t) = same-box s t
  same (refusals n) = same-refusal n

  -- the same point is joined to both
  both-joined : {r s : BoundsAnswer} (q : PointAnswer) → PointAnswer-Judged q
      → Holding o r s → Holding o (BoundsAnswer-union_moved r q) (BoundsAnswer-union_moved s q)
  unfolding BoundsAnswer-union_moved
  both-joined (Ok q) j (boxes i s t) = let f = test-finite q j.values in
      boxes (union-point-keeps q i) (union-point-isotone q f s) (union-point-isotone q f t)
  both-joined (Err n) j (boxes i s t) = refusals n
  both-joined q j (refusals n) = refusals n

  -- the start's point is joined to one
  start-joined : {r s : BoundsAnswer} {q : PointAnswer} → q ≡ Ok o → Holding o r s → Holding o (BoundsAnswer-union_moved r q) s
  unfolding BoundsAnswer-union_moved
  start-joined e (boxes {x} {y} i s t) =
      rw (e, union-point-box x o)
      (boxes (union-inside-left (Bounds3f-from_point o) i) (union-least s (inside-subset (subset-inside s i))) (union_subset_left (Bounds3f-from_point o) t))
  start-joined e (refusals n) = refusals n

-- ---- one axis: the places below the count are joined to both, those after it to ours alone
module _ {m : AnimatedTransform} (built : Built m) (a : PoseConstants) (p o : Point3f)
    (start : Transform-transform_point m.start_transform p ≡ Ok o) where
  place : List Float → ℕ → BoundsAnswer → BoundsAnswer
  place zeros k = union_zero m a p (get_or zeros k nan)

  stored-joined : (zeros : List Float) (k : ℕ) {r s : BoundsAnswer} → Holding o r s → Holding o (loop (place zeros) k r) (loop (place zeros) k s)
  unfolding loop place union_zero point_at
  stored-joined zeros zero h = h
  stored-joined zeros (suc k) h = both-joined (point_at m a p (get_or zeros k nan)) (moved-point-judged m a _ p) (stored-joined zeros k h)

  unused-joined : (z : Zeros) → Stored z → (n : ℕ) → z.count ≤ n → n ≤ 8 → {r s : BoundsAnswer} → Holding o r s
      → Holding o (loop (place z.zeros) n r) (loop (place z.zeros) z.count s)
  unfolding loop place union_zero
  unused-joined z st zero l u h = let e : z.count ≡ 0 = omega arith in rw e (stored-joined z.zeros 0 h)
  unused-joined z st (suc n) l u h =
      elim (eq-or-lt_of_le l) [
        | inl e ↦ rw e (stored-joined z.zeros (suc n) h)
        | inr k ↦
            start-joined (rw (st.unused n (omega arith) (omega arith)) (point-at-start built a p ∙ start)) (unused-joined z st n (omega arith) (omega arith) h)
      ]

  zeros-same : (z : Zeros) → Stored z → {r s : BoundsAnswer} → Holding o r s
      → Holding o (union_zeros m a p z.zeros 8 r) (union_zeros m a p z.zeros z.count s)
  unfolding union_zeros place
  zeros-same z st h = unused-joined z st 8 st.count (omega arith) h

  axis-same : (d : Derivative) {r s : BoundsAnswer} → Holding o r s → Holding o (union_axis all_places m a p d r) (union_axis stored_places m a p d s)
  unfolding union_axis
  axis-same d (refusals n) = refusals n
  axis-same d (boxes {x} {y} i s t) = go (eqb (axis_search a p d).zeros.refusal 0)
    where
      z : Zeros
      z = (axis_search a p d).zeros

      go : (e : Bool)
          → Holding o (cond e (union_zeros m a p z.zeros 8 (Bounds x)) (Refused z.refusal))
          (cond e (union_zeros m a p z.zeros z.count (Bounds y)) (Refused z.refusal))
      go true = zeros-same z (axis-zeros-stored a p d) (boxes i s t)
      go false = refusals z.refusal

-- ---- a point's motion
cond_same : (b : Bool) {x x' y y' : BoundsAnswer} → BoundsAnswer-Same x x' → BoundsAnswer-Same y y' → BoundsAnswer-Same (cond b x y) (cond b x' y')
cond_same true h k = h
cond_same false h k = k

module _ {m : AnimatedTransform} (built : Built m) (a : PoseConstants) (p : Point3f) where
  end : PointAnswer
  end = Transform-transform_point m.end_transform p

  axes : (Zeros → ℕ) → BoundsAnswer → BoundsAnswer
  axes places r = let c = m.coefficients in union_axis places m a p c.z (union_axis places m a p c.y (union_axis places m a p c.x r))

  point-by-start : (start : PointAnswer) → Transform-transform_point m.start_transform p ≡ start → PointAnswer-Judged start
      → BoundsAnswer-Same (cond (not m.actually_animated) (BoundsAnswer-from_moved start) (axes all_places (BoundsAnswer-from_ends start end)))
      (cond (not m.actually_animated) (BoundsAnswer-from_moved start) (axes stored_places (BoundsAnswer-from_ends start end)))
  unfolding end axes BoundsAnswer-from_moved BoundsAnswer-from_ends union_axis
  point-by-start (Err n) e j = cond_same (not m.actually_animated) (same-refusal n) (same-refusal n)
  point-by-start (Ok o) e j =
      let f = test-finite o j.values in
      let c = m.coefficients in
      let ends : Holding o (BoundsAnswer-from_ends (Ok o) end) (BoundsAnswer-from_ends (Ok o) end) =
      rw (from-ends-union (Ok o) end)
      (both-joined end (transform-point-judged m.end_transform p) (boxes (from-point-inside f) (point-subset f) (point-subset f))) in
      cond_same (not m.actually_animated) (same-box (point-subset f) (point-subset f))
      (same (axis-same built a p o e c.z (axis-same built a p o e c.y (axis-same built a p o e c.x ends))))

  pub point-bounds-book : BoundsAnswer-Same (point_bounds all_places m a p) (point_bounds stored_places m a p)
  unfolding point_bounds axes end
  point-bounds-book = point-by-start (Transform-transform_point m.start_transform p) refl (transform-point-judged m.start_transform p)

-- ---- a box's motion
same_refl : (r : BoundsAnswer) → T (Bounds3f-is_finite (BoundsAnswer-bounds r)) → BoundsAnswer-Same r r
same_refl (Bounds b) f = same-box (finite-self f) (finite-self f)
same_refl (Refused n) f = same-refusal n

module _ {m : AnimatedTransform} (built : Built m) (b : Bounds3f) where
  corners-same : (a : PoseConstants) (n : ℕ) → BoundsAnswer-Same (union_corners all_places m a b n) (union_corners stored_places m a b n)
  unfolding union_corners union_corner loop
  corners-same a zero = same_refl (Bounds Bounds3f-default) default-finite
  corners-same a (suc n) = union-same (corners-same a n) (point-bounds-book built a (Bounds3f-corner b n))

  box-bounds-book : BoundsAnswer-Same (box_bounds all_places m b) (box_bounds stored_places m b)
  unfolding box_bounds
  box-bounds-book =
      let start = same_refl _ (transform-bounds-judged m.start_transform b).values in
      let end = same_refl _ (transform-bounds-judged m.end_transform b).values in
      cond_same (not m.actually_animated) start
      (cond_same (not m.has_rotation) (union-same start end) (corners-same (AnimatedTransform-constants m) 8))

-- ---- the queries
uncounted : (r : BoundsAnswer) (e : Examined) → MotionBoundsAnswer-uncounted (BoundsAnswer-counted r e) ≡ r
unfolding BoundsAnswer-counted
uncounted (Bounds b) e = refl
uncounted (Refused n) e = refl

pub bound-point-motion-book : {m : AnimatedTransform} → Built m → (p : Point3f)
    → BoundsAnswer-Same (MotionBoundsAnswer-uncounted (AnimatedTransform-bound_point_motion m p)) (Book-bound_point_motion m p)
unfolding bound_point_motion
bound-point-motion-book {m} built p =
    rw (uncounted (bound_point_motion all_places m p) (point_examined m (AnimatedTransform-constants m) p))
    (cond_same (not (Point3f-is_finite p)) (same-refusal 6) (point-bounds-book built (AnimatedTransform-constants m) p))

pub motion-bounds-book : {m : AnimatedTransform} → Built m → (b : Bounds3f)
    → BoundsAnswer-Same (MotionBoundsAnswer-uncounted (AnimatedTransform-motion_bounds m b)) (Book-motion_bounds m b)
unfolding motion_bounds
motion-bounds-book {m} built b =
    rw (uncounted (motion_bounds all_places m b) (box_examined m b))
    (cond_same (eqb (Bounds3f-refusal b) 0) (box-bounds-book built b) (same-refusal (Bounds3f-refusal b)))
