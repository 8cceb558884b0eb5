-- No point query is refused with 0 (`point-nonzero`), since 5 and 6 are the only numbers that are written: an answer whose number is 0 is a moved point, and
-- its other numbers are 5 and 6, `transform-point-numbered`.
use Rattle.std.specs.Prelude.{Ok, Err}
use Prim.Native.Nat.{ℕ}
use mathlib.Core.Path.{◌≡◌, refl}
use mathlib.Core.Bool.{not, ◌&&◌, ◌||◌}
use mathlib.Core.Logic.{◌⊎◌, inl, inr}
use mathlib.Core.List.{List, [], ◌∷◌}
use native.Mathlib.Omega.{arith}
use lib.Dec.{eqb}
use lib.Ieee.{Float, is_nan}
use Rattle.transform.proofs.control_flow.Choice.{cond-keeps}
use Rattle.transform.specs.matrix4x4.Rows.{Matrix4x4-to_rows}
use Rattle.bounds3.specs.declared.Point3f.{Point3f}
use Rattle.bounds3.specs.Finite.{Point3f-is_finite}
use Rattle.transform.specs.declared.Transform.{Transform}
use Rattle.transform.specs.TransformPoint.{moved_point, PointAnswer-judged, Transform-transform_point}
use Rattle.transform.specs.Answer.{PointAnswer, OneOf, PointAnswer-refusal}
use Rattle.unit_interval.specs.Unit.{dt}
use Rattle.pose_steps.specs.declared.PoseConstants.{PoseConstants}
use Rattle.pose_steps.specs.Pose.{Pose-matrix, Pose-transform_point, Pose-moved_point}
use Rattle.animated_transform.specs.declared.AnimatedTransform.{AnimatedTransform}
use Rattle.animated_transform.specs.AtTime.{at_start, at_end}
use Rattle.motion_point.specs.Answer.{PointAnswer-Numbered}
use Rattle.motion_point.specs.TransformPoint.{AnimatedTransform-constants, AnimatedTransform-moved_point, AnimatedTransform-transform_point}
use Rattle.motion_point.proofs.Query.{transform-point-answered}

abbrev pub PointAnswer-NonZero : PointAnswer → Type 0
PointAnswer-NonZero (Ok p) = Unit {0}
PointAnswer-NonZero (Err n) = n ≡ 0 → ⊥

pub point-numbered : {numbers : List ℕ} (a : PointAnswer) → PointAnswer-NonZero a → OneOf (PointAnswer-refusal a) numbers → PointAnswer-Numbered numbers a
point-numbered (Ok p) h k = record { number = k; none = λ _. refl }
point-numbered (Err n) h k = record { number = k; none = λ e. absurd (h e) }

-- ---- the work
five : PointAnswer-NonZero (Err 5)
five e = absurd (omega (arith, e))

pub six-nonzero : PointAnswer-NonZero (Err 6)
six-nonzero e = absurd (omega (arith, e))

pub transform-point-nonzero : (t : Transform) (p : Point3f) → PointAnswer-NonZero (Transform-transform_point t p)
unfolding Transform-transform_point PointAnswer-judged
transform-point-nonzero t p =
    let q = moved_point (Matrix4x4-to_rows t.m) p in
    cond-keeps PointAnswer-NonZero (Point3f-is_finite q) (Ok q) (Err 5) tt five

pose-nonzero : (a : PoseConstants) (m : AnimatedTransform) (t : Float) (p : Point3f) → PointAnswer-NonZero (Pose-moved_point a m.s0 m.s1 t p)
unfolding Pose-moved_point
pose-nonzero a m t p =
    let pose = Pose-matrix a m.s0 m.s1 t in
    let q = Pose-transform_point pose.m p in
    cond-keeps PointAnswer-NonZero (eqb pose.refusal 0 && Point3f-is_finite q) (Ok q) (Err 5) tt five

pub moved-point-nonzero : (m : AnimatedTransform) (a : PoseConstants) (time : Float) (p : Point3f)
    → PointAnswer-NonZero (AnimatedTransform-moved_point m a time p)
unfolding AnimatedTransform-moved_point
moved-point-nonzero m a time p =
    cond-keeps PointAnswer-NonZero (at_start m time) _ _ (transform-point-nonzero m.start_transform p)
    (cond-keeps PointAnswer-NonZero (at_end m time) _ _ (transform-point-nonzero m.end_transform p)
    (pose-nonzero a m (dt m.start_time m.end_time time) p))

-- ---- the query
point-nonzero : (m : AnimatedTransform) (time : Float) (p : Point3f) → PointAnswer-NonZero (AnimatedTransform-transform_point m time p)
unfolding AnimatedTransform-transform_point
point-nonzero m time p =
    cond-keeps PointAnswer-NonZero (is_nan time || not (Point3f-is_finite p)) (Err 6) _ six-nonzero
    (moved-point-nonzero m (AnimatedTransform-constants m) time p)

pub transform-point-numbered : (m : AnimatedTransform) (time : Float) (p : Point3f)
    → PointAnswer-Numbered (0 ∷ 5 ∷ 6 ∷ []) (AnimatedTransform-transform_point m time p)
transform-point-numbered m time p =
    point-numbered (AnimatedTransform-transform_point m time p) (point-nonzero m time p) (go (transform-point-answered m time p).number)
  where
    go : {n : ℕ} → (n ≡ 0) ⊎ ((n ≡ 5) ⊎ (n ≡ 6)) → OneOf n (0 ∷ 5 ∷ 6 ∷ [])
    go (inl e) = inl e
    go (inr (inl e)) = inr (inl e)
    go (inr (inr e)) = inr (inr (inl e))
