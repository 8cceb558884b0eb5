-- The point query gives no number but 5 and 6, and a finite point where it gives none: `transform-point-answered`, for all structs and arguments.
-- At and outside the end times, and where the poses are equal, a stored transform moves the point (`moved-point-start`, `moved-point-end`); between
-- them the pose at dt does (`moved-point-between`). `transform-point-accepted`: that is what the query answers, once its arguments have passed.
use Rattle.std.specs.Prelude.{Err}
use mathlib.Core.Path.{◌≡◌, refl}
use mathlib.Core.Bool.{Bool, true, false, not, ◌||◌, cond}
use mathlib.Core.Logic.{◌⊎◌, inl, inr}
use lib.Ieee.{Float, is_nan, of_bits}
use Rattle.transform.proofs.control_flow.Choice.{cond-keeps}
use Rattle.bounds3.specs.declared.Point3f.{Point3f}
use Rattle.bounds3.specs.Finite.{Point3f-is_finite}
use Rattle.transform.specs.TransformPoint.{Transform-transform_point}
use Rattle.transform.specs.Answer.{PointAnswer, PointAnswer-refusal, PointAnswer-Judged}
use Rattle.transform.proofs.Judged.{transform-point-judged}
use Rattle.unit_interval.specs.Unit.{dt}
use Rattle.pose_steps.specs.declared.PoseConstants.{PoseConstants}
use Rattle.pose_steps.specs.Pose.{Pose-moved_point}
use Rattle.pose_steps.proofs.Number.{moved_point-judged}
use Rattle.animated_transform.specs.declared.AnimatedTransform.{AnimatedTransform}
use Rattle.animated_transform.specs.AtTime.{at_start, at_end}
use Rattle.motion_point.specs.Answer.{PointAnswer-Answered}
use Rattle.motion_point.specs.TransformPoint.{AnimatedTransform-constants, AnimatedTransform-moved_point, AnimatedTransform-transform_point}

-- ---- the work
pub moved-point-judged : (m : AnimatedTransform) (a : PoseConstants) (time : Float) (p : Point3f) → PointAnswer-Judged (AnimatedTransform-moved_point m a time p)
unfolding AnimatedTransform-moved_point
moved-point-judged m a time p =
    cond-keeps PointAnswer-Judged (at_start m time) _ _ (transform-point-judged m.start_transform p)
    (cond-keeps PointAnswer-Judged (at_end m time) _ _ (transform-point-judged m.end_transform p)
    (moved_point-judged a m.s0 m.s1 (dt m.start_time m.end_time time) p))

module _ (m : AnimatedTransform) (a : PoseConstants) (time : Float) (p : Point3f) where
  pub moved-point-start : at_start m time ≡ true → AnimatedTransform-moved_point m a time p ≡ Transform-transform_point m.start_transform p
  unfolding AnimatedTransform-moved_point
  moved-point-start e = rw e

  pub moved-point-end : at_start m time ≡ false → at_end m time ≡ true → AnimatedTransform-moved_point m a time p ≡ Transform-transform_point m.end_transform p
  unfolding AnimatedTransform-moved_point
  moved-point-end e f = rw (e, f)

  pub moved-point-between : at_start m time ≡ false → at_end m time ≡ false
      → AnimatedTransform-moved_point m a time p ≡ Pose-moved_point a m.s0 m.s1 (dt m.start_time m.end_time time) p
  unfolding AnimatedTransform-moved_point
  moved-point-between e f = rw (e, f)

-- ---- the query
pub transform-point-accepted : (m : AnimatedTransform) (time : Float) (p : Point3f) → is_nan time ≡ false → Point3f-is_finite p ≡ true
    → AnimatedTransform-transform_point m time p ≡ AnimatedTransform-moved_point m (AnimatedTransform-constants m) time p
unfolding AnimatedTransform-transform_point
transform-point-accepted m time p e f = rw (e, f)

judged-answered : {a : PointAnswer} → PointAnswer-Judged a → PointAnswer-Answered a
judged-answered {a} j = record { number = widen j.number; values = j.values }
  where
    widen : (PointAnswer-refusal a ≡ 0) ⊎ (PointAnswer-refusal a ≡ 5)
        → (PointAnswer-refusal a ≡ 0) ⊎ ((PointAnswer-refusal a ≡ 5) ⊎ (PointAnswer-refusal a ≡ 6))
    widen (inl e) = inl e
    widen (inr e) = inr (inl e)

refused-answered : PointAnswer-Answered (Err 6)
unfolding Point3f-is_finite of_bits
refused-answered = record { number = inr (inr refl); values = tt }

pub transform-point-answered : (m : AnimatedTransform) (time : Float) (p : Point3f) → PointAnswer-Answered (AnimatedTransform-transform_point m time p)
unfolding AnimatedTransform-transform_point
transform-point-answered m time p =
    cond-keeps PointAnswer-Answered (is_nan time || not (Point3f-is_finite p)) (Err 6) _ refused-answered
    (judged-answered (moved-point-judged m (AnimatedTransform-constants m) time p))
