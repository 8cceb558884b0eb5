-- The numbers that `interpolate` can give are 0, 4, 5 and 6 (`interpolate-refusal`), and after a refusal every entry is +0 (`interpolate-refused`).
-- What holds of each answer that its tests choose from holds of the answer (`interpolate-cases`). The same where the angle is at hand
-- (`interpolate-by-refusal`, `interpolate-by-refused`).
use mathlib.Core.Path.{◌≡◌, refl}
use mathlib.Core.Bool.{Bool, true, false, ◌&&◌, cond}
use mathlib.Core.Logic.{◌⊎◌, inl, inr}
use Prim.Native.Nat.{ℕ}
use lib.Dec.{eqb}
use lib.Ieee.{Float, is_nan}
use Rattle.transform.proofs.control_flow.Choice.{cond-keeps}
use Rattle.matrix4x4.specs.declared.Matrix4x4.{Matrix4x4}
use Rattle.matrix4x4.specs.Rows.{Rows, Matrix4x4-to_rows}
use Rattle.matrix4x4.specs.IsFinite.{Matrix4x4-is_finite}
use Rattle.vector3.specs.declared.Vector3f.{Vector3f}
use Rattle.quaternion.specs.declared.Quaternion.{Quaternion}
use Rattle.quaternion.specs.Slerp.{Quaternion-slerp}
use Rattle.quaternion.specs.IsFinite.{Quaternion-is_finite}
use Rattle.transform.specs.declared.Transform.{Transform}
use Rattle.transform.specs.Transform.{TransformAnswer}
use Rattle.transform.specs.Transform.{TransformAnswer-refused, Transform-from_matrix, Transform-translate, Transform-mul}
use Rattle.transform.proofs.FromMatrix.{from-matrix-numbers}
use Rattle.rotation.specs.FromQuaternion.{Transform-from_quaternion}
use Rattle.unit_interval.specs.Unit.{dt}
use Rattle.pose_parts.specs.pose_steps.declared.PoseConstants.{PoseConstants}
use Rattle.pose_parts.specs.pose_steps.Pose.{Pose-slerp}
use Rattle.pose_parts.specs.pose_steps.Composition.{lerp_translation, lerp_scale_by}
use Rattle.animated_transform.specs.declared.AnimatedTransform.{AnimatedTransform}
use Rattle.animated_transform.specs.AtTime.{at_start, at_end}
use Rattle.interpolation.specs.Interpolate.{Transform-is_finite, TransformAnswer-accepted, TransformAnswer-judged}
use Rattle.interpolation.specs.Interpolate.{scaled, composed, AnimatedTransform-pose_at, Pose-transform}
use Rattle.interpolation.specs.Interpolate.{AnimatedTransform-interpolate_by, AnimatedTransform-interpolate}
use Rattle.interpolation.specs.Promise.{InterpolationNumber}

pub interpolate-cases : (P : TransformAnswer → Type 0) (m : AnimatedTransform) (between : Float → TransformAnswer) (time : Float)
    → P (TransformAnswer-refused 6)
    → P (TransformAnswer-judged m.start_transform) → P (TransformAnswer-judged m.end_transform)
    → P (between (dt m.start_time m.end_time time)) → P (AnimatedTransform-interpolate_by m between time)
unfolding AnimatedTransform-interpolate_by
interpolate-cases P m between time p q r s =
    cond-keeps P (is_nan time) _ _ p (cond-keeps P (at_start m time) _ _ q (cond-keeps P (at_end m time) _ _ r s))

-- An answer has one of the numbers, and is +0 throughout where that isn't 0.
record Answered (a : TransformAnswer) : Type 0 where
  number : InterpolationNumber a.refusal
  zero : (a.refusal ≡ 0 → ⊥) → a ≡ TransformAnswer-refused a.refusal

accepted-answered : (t : Transform) → Answered (TransformAnswer-accepted t)
accepted-answered t = record { number = inl refl; zero = λ z. absurd (z refl) }

refused-answered : (n : ℕ) → InterpolationNumber n → Answered (TransformAnswer-refused n)
refused-answered n h = record { number = h; zero = λ _. refl }

judged-answered : (t : Transform) → Answered (TransformAnswer-judged t)
unfolding TransformAnswer-judged
judged-answered t = cond-keeps Answered (Transform-is_finite t) _ _ (accepted-answered t) (refused-answered 5 (inr (inr (inl refl))))

inverse-number : (n : ℕ) → (n ≡ 0) ⊎ ((n ≡ 4) ⊎ (n ≡ 5)) → InterpolationNumber n
inverse-number n (inl e) = inl e
inverse-number n (inr (inl e)) = inr (inl e)
inverse-number n (inr (inr e)) = inr (inr (inl e))

scaled-answered : (first : Transform) (scale : Rows) → Answered (scaled first scale)
unfolding scaled
scaled-answered first scale =
    let s = Transform-from_matrix scale in
    cond-keeps Answered (eqb s.refusal 0) _ _ (judged-answered (Transform-mul first s.transform))
    (refused-answered s.refusal (inverse-number s.refusal (from-matrix-numbers scale)))

composed-answered : (trans : Vector3f) (rotate : Quaternion) (scale : Rows) → Answered (composed trans rotate scale)
unfolding composed
composed-answered trans rotate scale =
    let translation = Transform-translate trans in
    let rotation = Transform-from_quaternion rotate in
    let first = Transform-mul translation rotation in
    cond-keeps Answered (Quaternion-is_finite rotate && Matrix4x4-is_finite scale
    && Transform-is_finite translation && Transform-is_finite rotation && Transform-is_finite first) _ _
    (scaled-answered first scale)
    (refused-answered 5 (inr (inr (inl refl))))

pose-at-answered : (m : AnimatedTransform) (x : Float) → Answered (AnimatedTransform-pose_at m x)
unfolding AnimatedTransform-pose_at
pose-at-answered m x = composed-answered (lerp_translation m.t0 m.t1 x) (Quaternion-slerp m.r0 m.r1 x)
    (lerp_scale_by m.rigid (Matrix4x4-to_rows m.s0) (Matrix4x4-to_rows m.s1) x)

transform-answered : (a : PoseConstants) (s0 s1 : Matrix4x4) (x : Float) → Answered (Pose-transform a s0 s1 x)
unfolding Pose-transform
transform-answered a s0 s1 x =
    composed-answered (lerp_translation a.t0 a.t1 x) (Pose-slerp a x) (lerp_scale_by a.rigid (Matrix4x4-to_rows s0) (Matrix4x4-to_rows s1) x)

by-answered : (m : AnimatedTransform) (between : Float → TransformAnswer) (time : Float) → Answered (between (dt m.start_time m.end_time time))
    → Answered (AnimatedTransform-interpolate_by m between time)
by-answered m between time h =
    interpolate-cases Answered m between time
    (refused-answered 6 (inr (inr (inr refl))))
    (judged-answered m.start_transform)
    (judged-answered m.end_transform)
    h

module _ (m : AnimatedTransform) (time : Float) where
  pub interpolate-refusal : InterpolationNumber (AnimatedTransform-interpolate m time).refusal
  interpolate-refusal = (by-answered m (AnimatedTransform-pose_at m) time (pose-at-answered m _)).number

  pub interpolate-refused : ((AnimatedTransform-interpolate m time).refusal ≡ 0 → ⊥)
      → AnimatedTransform-interpolate m time ≡ TransformAnswer-refused (AnimatedTransform-interpolate m time).refusal
  interpolate-refused = (by-answered m (AnimatedTransform-pose_at m) time (pose-at-answered m _)).zero

module _ (m : AnimatedTransform) (a : PoseConstants) (s0 s1 : Matrix4x4) (time : Float) where
  pub interpolate-by-refusal : InterpolationNumber (AnimatedTransform-interpolate_by m (Pose-transform a s0 s1) time).refusal
  interpolate-by-refusal = (by-answered m (Pose-transform a s0 s1) time (transform-answered a s0 s1 _)).number

  pub interpolate-by-refused : ((AnimatedTransform-interpolate_by m (Pose-transform a s0 s1) time).refusal ≡ 0 → ⊥)
      → AnimatedTransform-interpolate_by m (Pose-transform a s0 s1) time
      ≡ TransformAnswer-refused (AnimatedTransform-interpolate_by m (Pose-transform a s0 s1) time).refusal
  interpolate-by-refused = (by-answered m (Pose-transform a s0 s1) time (transform-answered a s0 s1 _)).zero
