-- Answers with their counts: the counts of a refusal don't matter (`axes-counted`), and a corner more joins boxes and adds counts (`next-corner`).
use Prim.Native.Nat.{ℕ, suc, ◌+◌}
use mathlib.Core.Path.{◌≡◌, refl, sym, ap, subst, ◌∙◌}
use native.Mathlib.Numerals.{add-one}
use Rattle.bounds3.specs.declared.Point3f.{Point3f}
use Rattle.bounds3.specs.declared.Bounds3f.{Bounds3f}
use Rattle.bounds3.specs.Bounds3f.{Bounds3f-default, Bounds3f-corner}
use Rattle.transform.specs.control_flow.Loop.{loop}
use Rattle.transform.specs.declared.BoundsAnswer.{BoundsAnswer}
use Rattle.transform.specs.declared.BoundsAnswer.TheVariants.{Bounds, Refused}
use Rattle.bounds_query.specs.Query.{BoundsAnswer-union_bounds}
use Rattle.axis_derivative.specs.declared.Derivative.{Derivative}
use Rattle.pose_steps.specs.declared.PoseConstants.{PoseConstants}
use Rattle.animated_transform.specs.declared.AnimatedTransform.{AnimatedTransform}
use Rattle.motion_bounds.specs.declared.Examined.{Examined}
use Rattle.motion_bounds.specs.declared.MotionBoundsAnswer.{MotionBoundsAnswer}
use Rattle.motion_bounds.specs.declared.MotionBoundsAnswer.TheVariants as motion
use Rattle.motion_bounds.specs.MotionBounds.{all_places, axis_search, union_axis, point_bounds, union_corner, union_corners}
use Rattle.motion_bounds.specs.Examined.{Examined-none, Examined-AtMost, Examined-add, point_examined, corners_examined}
use Rattle.motion_bounds.specs.Answer.{MotionBoundsAnswer-examined, BoundsAnswer-counted}
use Rattle.motion_bounds.specs.means.Steps.{axis_examined, union_axes, axes_examined, MotionBoundsAnswer-union_bounds}
use Rattle.motion_bounds.proofs.Searched.{none-examined}

-- Nothing is refused.
abbrev Answered : BoundsAnswer → Type 0
Answered (Bounds b) = Unit {0}
Answered (Refused n) = ⊥

counted_same : (r : BoundsAnswer) (e f : Examined) → (Answered r → e ≡ f) → BoundsAnswer-counted r e ≡ BoundsAnswer-counted r f
unfolding BoundsAnswer-counted
counted_same (Bounds b) e f h = ap (motion.Bounds b) (h tt)
counted_same (Refused n) e f h = refl

counted-at-most : (k : ℕ) (s : BoundsAnswer) (f : Examined) → Examined-AtMost k f
    → Examined-AtMost k (MotionBoundsAnswer-examined (BoundsAnswer-counted s f))
unfolding BoundsAnswer-counted
counted-at-most k (Bounds b) f h = h
counted-at-most k (Refused n) f h = none-examined k

-- The counts that an answer was given are those that it carries.
pub counted-few : {k : ℕ} {r : MotionBoundsAnswer} (s : BoundsAnswer) {f e : Examined} {b : Bounds3f}
    → r ≡ BoundsAnswer-counted s f → r ≡ motion.Bounds b e → Examined-AtMost k f → Examined-AtMost k e
counted-few {k} s {f} p q h = subst (Examined-AtMost k) (ap MotionBoundsAnswer-examined (sym p ∙ q)) (counted-at-most k s f h)

-- ---- the three axes
module _ (m : AnimatedTransform) (a : PoseConstants) (p : Point3f) where
  axis-answered : (d : Derivative) (r : BoundsAnswer) → Answered (union_axis all_places m a p d r) → Answered r
  unfolding union_axis
  axis-answered d (Bounds b) h = tt
  axis-answered d (Refused n) h = h

  axis-examined : (d : Derivative) (r : BoundsAnswer) → Answered r → axis_examined a p d r ≡ (axis_search a p d).examined
  axis-examined d (Bounds b) h = refl
  axis-examined d (Refused n) h = absurd h

  pub axes-counted : (r : BoundsAnswer)
      → BoundsAnswer-counted (union_axes m a p r) (record {
        x = axis_examined a p m.coefficients.x r;
        y = axis_examined a p m.coefficients.y (union_axis all_places m a p m.coefficients.x r);
        z = axis_examined a p m.coefficients.z (union_axis all_places m a p m.coefficients.y (union_axis all_places m a p m.coefficients.x r));
      }) ≡
      BoundsAnswer-counted (union_axes m a p r) (axes_examined m a p)
  axes-counted r = counted_same _ _ _ searched
    where
      searched : Answered (union_axes m a p r) → record {
        x = axis_examined a p m.coefficients.x r;
        y = axis_examined a p m.coefficients.y (union_axis all_places m a p m.coefficients.x r);
        z = axis_examined a p m.coefficients.z (union_axis all_places m a p m.coefficients.y (union_axis all_places m a p m.coefficients.x r));
      } ≡ axes_examined m a p
      searched h =
          let c = m.coefficients in
          let after-y = axis-answered c.z _ h in
          let after-x = axis-answered c.y _ after-y in
          rw (axis-examined c.x _ (axis-answered c.x _ after-x), axis-examined c.y _ after-x, axis-examined c.z _ after-y)

-- ---- corners
union-counted : (r s : BoundsAnswer) (e f : Examined)
    → BoundsAnswer-counted (BoundsAnswer-union_bounds r s) (Examined-add e f) ≡
    MotionBoundsAnswer-union_bounds (BoundsAnswer-counted r e) (BoundsAnswer-counted s f)
unfolding BoundsAnswer-counted BoundsAnswer-union_bounds MotionBoundsAnswer-union_bounds
union-counted (Bounds a) (Bounds b) e f = refl
union-counted (Bounds a) (Refused n) e f = refl
union-counted (Refused n) s e f = refl

module _ (m : AnimatedTransform) (a : PoseConstants) (b : Bounds3f) where
  pub no-corner : BoundsAnswer-counted (union_corners all_places m a b 0) (corners_examined m a b 0) ≡ motion.Bounds Bounds3f-default Examined-none
  unfolding union_corners corners_examined loop BoundsAnswer-counted
  no-corner = refl

  pub next-corner : (c : ℕ)
      → BoundsAnswer-counted (union_corners all_places m a b (c + 1)) (corners_examined m a b (c + 1)) ≡
      MotionBoundsAnswer-union_bounds (BoundsAnswer-counted (union_corners all_places m a b c) (corners_examined m a b c))
      (BoundsAnswer-counted (point_bounds all_places m a (Bounds3f-corner b c)) (point_examined m a (Bounds3f-corner b c)))
  unfolding union_corners union_corner corners_examined loop
  next-corner c = rw (add-one c) (union-counted _ _ _ _)
