-- What the tests on the way say where the work between the poses is not refused (`composed-accepted`),
-- and that an answer that is not refused is finite in both halves, whatever the move (`interpolate-finite`).
use mathlib.Core.Path.{◌≡◌, refl, ◌∙◌}
use mathlib.Core.Bool.{Bool, true, false, ◌&&◌, cond}
use Prim.Native.Nat.{ℕ}
use native.Mathlib.Omega.{arith}
use borrow.Author.Tests.{eqb-true, eqb-false}
use lib.Dec.{T, eqb}
use lib.Ieee.{Float}
use lib.Ieee.Fits.{and_l, and_r}
use Rattle.matrix4x4.specs.Rows.{Rows, Matrix4x4-to_rows}
use Rattle.matrix4x4.specs.IsFinite.{Matrix4x4-is_finite}
use Rattle.vector3.specs.declared.Vector3f.{Vector3f}
use Rattle.quaternion.specs.declared.Quaternion.{Quaternion}
use Rattle.quaternion.specs.Slerp.{Quaternion-slerp}
use Rattle.quaternion.specs.IsFinite.{Quaternion-is_finite}
use Rattle.transform.specs.declared.Transform.{Transform}
use Rattle.transform.specs.Transform.{TransformAnswer}
use Rattle.transform.specs.Transform.{TransformAnswer-refused, Transform-from_matrix, Transform-translate, Transform-mul}
use Rattle.rotation.specs.FromQuaternion.{Transform-from_quaternion}
use Rattle.pose_parts.specs.pose_steps.Composition.{lerp_translation, lerp_scale_by}
use Rattle.animated_transform.specs.declared.AnimatedTransform.{AnimatedTransform}
use Rattle.interpolation.specs.Interpolate.{Transform-is_finite, TransformAnswer-accepted, TransformAnswer-judged}
use Rattle.interpolation.specs.Interpolate.{scaled, composed, AnimatedTransform-pose_at, AnimatedTransform-interpolate}
use Rattle.interpolation.proofs.Numbers.{interpolate-cases}

abbrev pub first_product : Vector3f → Quaternion → Transform
first_product trans rotate = Transform-mul (Transform-translate trans) (Transform-from_quaternion rotate)

abbrev pub last_product : Vector3f → Quaternion → Rows → Transform
last_product trans rotate scale = Transform-mul (first_product trans rotate) (Transform-from_matrix scale).transform

-- The composition was not refused: every test was passed, and the answer is the last product.
pub record Composed (trans : Vector3f) (rotate : Quaternion) (scale : Rows) : Type 0 where
  pub rotate-finite : T (Quaternion-is_finite rotate)
  pub scale-finite : T (Matrix4x4-is_finite scale)
  pub translation-finite : T (Transform-is_finite (Transform-translate trans))
  pub rotation-finite : T (Transform-is_finite (Transform-from_quaternion rotate))
  pub first-finite : T (Transform-is_finite (first_product trans rotate))
  pub inverse : (Transform-from_matrix scale).refusal ≡ 0
  pub last-finite : T (Transform-is_finite (last_product trans rotate scale))
  pub value : composed trans rotate scale ≡ TransformAnswer-accepted (last_product trans rotate scale)

judged-accepted : (t : Transform) → (TransformAnswer-judged t).refusal ≡ 0 → T (Transform-is_finite t) × (TransformAnswer-judged t ≡ TransformAnswer-accepted t)
unfolding TransformAnswer-judged
judged-accepted t = go (Transform-is_finite t)
  where
    go : (b : Bool) → (cond b (TransformAnswer-accepted t) (TransformAnswer-refused 5)).refusal ≡ 0
        → T b × (cond b (TransformAnswer-accepted t) (TransformAnswer-refused 5) ≡ TransformAnswer-accepted t)
    go true h = (tt, refl)
    go false h = absurd (omega arith)

-- A number that was not met.
not-refused : (n : ℕ) (a : TransformAnswer) → (cond (eqb n 0) a (TransformAnswer-refused n)).refusal ≡ 0
    → (n ≡ 0) × (a.refusal ≡ 0) × (cond (eqb n 0) a (TransformAnswer-refused n) ≡ a)
not-refused n a = go (eqb n 0) refl
  where
    go : (b : Bool) → eqb n 0 ≡ b → (cond b a (TransformAnswer-refused n)).refusal ≡ 0 → (n ≡ 0) × (a.refusal ≡ 0) × (cond b a (TransformAnswer-refused n) ≡ a)
    go true e h = (eqb-true n 0 e, h, refl)
    go false e h = absurd (eqb-false n 0 e h)

passed : (b : Bool) (a : TransformAnswer) → (cond b a (TransformAnswer-refused 5)).refusal ≡ 0
    → T b × (a.refusal ≡ 0) × (cond b a (TransformAnswer-refused 5) ≡ a)
passed true a h = (tt, h, refl)
passed false a h = absurd (omega arith)

pub composed-accepted : (trans : Vector3f) (rotate : Quaternion) (scale : Rows) → (composed trans rotate scale).refusal ≡ 0 → Composed trans rotate scale
unfolding composed scaled
composed-accepted trans rotate scale h =
    let Q = Quaternion-is_finite rotate in
    let K = Matrix4x4-is_finite scale in
    let U = Transform-is_finite (Transform-translate trans) in
    let R = Transform-is_finite (Transform-from_quaternion rotate) in
    let F = Transform-is_finite (first_product trans rotate) in
    let s = Transform-from_matrix scale in
    let (t, z, v) = passed (Q && K && U && R && F) (scaled (first_product trans rotate) scale) h in
    let (n, y, w) = not-refused s.refusal (TransformAnswer-judged (last_product trans rotate scale)) z in
    let (l, u) = judged-accepted (last_product trans rotate scale) y in
    let qkur = and_l (Q && K && U && R) F t in
    let qku = and_l (Q && K && U) R qkur in
    let qk = and_l (Q && K) U qku in
    record {
      rotate-finite = and_l Q K qk;
      scale-finite = and_r Q K qk;
      translation-finite = and_r (Q && K) U qku;
      rotation-finite = and_r (Q && K && U) R qkur;
      first-finite = and_r (Q && K && U && R) F t;
      inverse = n;
      last-finite = l;
      value = v ∙ w ∙ u;
    }

-- Where nothing is refused, both halves are finite.
abbrev FiniteAnswer : TransformAnswer → Type 0
FiniteAnswer a = a.refusal ≡ 0 → T (Transform-is_finite a.transform)

judged-finite : (t : Transform) → FiniteAnswer (TransformAnswer-judged t)
judged-finite t h = let (f, e) = judged-accepted t h in rw e f

pose-at-finite : (m : AnimatedTransform) (x : Float) → FiniteAnswer (AnimatedTransform-pose_at m x)
unfolding AnimatedTransform-pose_at
pose-at-finite m x h =
    let c = composed-accepted (lerp_translation m.t0 m.t1 x) (Quaternion-slerp m.r0 m.r1 x)
    (lerp_scale_by m.rigid (Matrix4x4-to_rows m.s0) (Matrix4x4-to_rows m.s1) x) h in
    rw c.value c.last-finite

pub interpolate-finite : (m : AnimatedTransform) (time : Float) → (AnimatedTransform-interpolate m time).refusal ≡ 0
    → T (Transform-is_finite (AnimatedTransform-interpolate m time).transform)
interpolate-finite m time =
    interpolate-cases FiniteAnswer m (AnimatedTransform-pose_at m) time
    (λ h. absurd (omega arith))
    (judged-finite m.start_transform)
    (judged-finite m.end_transform)
    (pose-at-finite m _)
