-- Between the two poses `interpolate` is pbrt's composition (`interpolate-composition`). By the constants at hand it is the same where they are the move's own
-- (`transform-same`); whatever they are, its matrix half is the matrix that the point query works with them, which is not refused there (`transform-pose`),
-- so that the transform moves a finite point as the point query does (`transform-point`).
-- The tests of `Pose-transform` are those of `Pose-matrix`, stage by stage on the same bits, and more on the inverse halves (`composed-passed`).
use mathlib.Core.Path.{◌≡◌, refl, sym, ap, subst, ◌∙◌}
use mathlib.Core.Bool.{Bool, true, false, ◌&&◌}
use lib.Dec.{T}
use lib.Ieee.{Float, of_bits, eq}
use lib.Ieee.Fits.{and_l, and_i}
use Rattle.vector3.specs.declared.Vector3f.{Vector3f}
use Rattle.matrix4x4.specs.declared.Matrix4x4.{Matrix4x4}
use Rattle.matrix4x4.specs.Rows.{Rows, Matrix4x4-to_rows, Matrix4x4-from_rows}
use Rattle.matrix4x4.specs.IsFinite.{Matrix4x4-is_finite}
use Rattle.matrix4x4.specs.IsAffine.{bottom_row, Matrix4x4-is_affine}
use Rattle.quaternion.specs.declared.Quaternion.{Quaternion}
use Rattle.quaternion.specs.Slerp.{Quaternion-slerp}
use Rattle.quaternion.specs.IsFinite.{Quaternion-is_finite}
use Rattle.transform.specs.bounds3.declared.Point3f.{Point3f}
use Rattle.transform.specs.bounds3.Finite.{Finite}
use Rattle.transform.specs.declared.Transform.{Transform}
use Rattle.transform.specs.Transform.{TransformAnswer}
use Rattle.transform.specs.Transform.{translation, Transform-from_matrix, Transform-translate, Transform-mul}
use Rattle.transform.specs.TransformPoint.{PointAnswer-judged, Transform-transform_point}
use Rattle.transform.proofs.FromMatrix.{from-matrix-refusal, from-matrix-accepted}
use Rattle.rotation.specs.FromQuaternion.{Transform-from_quaternion}
use Rattle.unit_interval.specs.Unit.{dt}
use Rattle.pose_parts.specs.pose_steps.declared.PoseConstants.{PoseConstants}
use Rattle.pose_parts.specs.pose_steps.Pose.{PoseConstants-new, Pose-translation, Pose-slerp, Pose-scale_by, Pose-rotation}
use Rattle.pose_parts.specs.pose_steps.Pose.{Pose-mul, Pose-transform_point, all_finite, PoseAnswer-judged, Pose-matrix, Pose-moved_point}
use Rattle.pose_parts.specs.pose_steps.Composition.{lerp_translation, lerp_scale_by, composition}
use Rattle.pose_parts.proofs.pose_steps.Rows.{scale-by-bottom, rotation-bottom, mul-bottom}
use Rattle.pose_parts.proofs.pose_steps.Composition.{translation-same, slerp-same, scale-by-same, rotation-same}
use Rattle.pose_parts.proofs.pose_steps.Composition.{product, product-same, point-affine}
use Rattle.animated_transform.specs.declared.AnimatedTransform.{AnimatedTransform}
use Rattle.interpolation.specs.Interpolate.{Transform-is_finite, composed, AnimatedTransform-pose_at, Pose-transform, AnimatedTransform-interpolate}
use Rattle.interpolation.specs.Promise.{Between}
use Rattle.interpolation.proofs.Stored.{interpolate-between}
use Rattle.interpolation.proofs.Finite.{first_product, last_product, Composed, composed-accepted}

matrix-half : (t : Transform) → T (Transform-is_finite t) → T (all_finite t.m)
unfolding Transform-is_finite
matrix-half t h = and_l (all_finite t.m) (all_finite t.m_inv) h

product-half : (a b : Transform) → (Transform-mul a b).m ≡ product a.m b.m
unfolding Transform-mul
product-half a b = refl

judged-passed : (b : Bool) (m : Matrix4x4) → T b → (PoseAnswer-judged b m).refusal ≡ 0
unfolding PoseAnswer-judged
judged-passed true m h = refl
judged-passed false m h = elim h [ ]

scale-rows : (k : Bool) (s0 s1 : Rows) (x : Float) → Matrix4x4-to_rows (Matrix4x4-from_rows (lerp_scale_by k s0 s1 x)) ≡ lerp_scale_by k s0 s1 x
unfolding lerp_scale_by
scale-rows true s0 s1 x = refl
scale-rows false s0 s1 x = refl

-- The move's constants, which `slerp` works out anew.
abbrev pub motion : AnimatedTransform → PoseConstants
motion m = PoseConstants-new m.rigid m.t0 m.t1 m.r0 m.r1

pub transform-same : (m : AnimatedTransform) (x : Float) → Pose-transform (motion m) m.s0 m.s1 x ≡ AnimatedTransform-pose_at m x
unfolding Pose-transform AnimatedTransform-pose_at PoseConstants-new
transform-same m x =
    ap (λ (q : Quaternion). composed (lerp_translation m.t0 m.t1 x) q
    (lerp_scale_by m.rigid (Matrix4x4-to_rows m.s0) (Matrix4x4-to_rows m.s1) x)) (slerp-same m.rigid m.t0 m.t1 m.r0 m.r1 x)

judged-matrix : (b : Bool) (m : Matrix4x4) → T b → (PoseAnswer-judged b m).m ≡ m
unfolding PoseAnswer-judged
judged-matrix true m h = refl
judged-matrix false m h = elim h [ ]

affine-bottom : (m : Matrix4x4) → m.r3 ≡ bottom_row → T (Matrix4x4-is_affine (Matrix4x4-to_rows m))
unfolding Matrix4x4-is_affine eq of_bits
affine-bottom m h = rw h tt

module _ (a : PoseConstants) (s0 s1 : Matrix4x4) (x : Float) where
  -- ---- what pbrt's lines work out
  abbrev trans : Vector3f
  trans = lerp_translation a.t0 a.t1 x

  abbrev rotate : Quaternion
  rotate = Pose-slerp a x

  abbrev scale : Rows
  scale = lerp_scale_by a.rigid (Matrix4x4-to_rows s0) (Matrix4x4-to_rows s1) x

  abbrev scale_transform : Transform
  scale_transform = (Transform-from_matrix scale).transform

  -- ---- the stages of `Pose-matrix`
  abbrev translation_stage : Matrix4x4
  translation_stage = let v = Pose-translation a.t0 a.t1 x in translation v.x v.y v.z

  abbrev rotation_stage : Matrix4x4
  rotation_stage = Pose-rotation rotate

  abbrev scale_stage : Matrix4x4
  scale_stage = Pose-scale_by a.rigid s0 s1 x

  abbrev first_stage : Matrix4x4
  first_stage = Pose-mul translation_stage rotation_stage

  abbrev last_stage : Matrix4x4
  last_stage = Pose-mul first_stage scale_stage

  pose-passed : T (Quaternion-is_finite rotate) → T (all_finite scale_stage) → T (all_finite translation_stage) → T (all_finite rotation_stage)
      → T (all_finite first_stage) → T (all_finite last_stage)
      → ((Pose-matrix a s0 s1 x).refusal ≡ 0) × ((Pose-matrix a s0 s1 x).m ≡ last_stage)
  unfolding Pose-matrix
  pose-passed q k u r f l =
      let Q = Quaternion-is_finite rotate in
      let K = Q && all_finite scale_stage in
      let U = K && all_finite translation_stage in
      let R = U && all_finite rotation_stage in
      let F = R && all_finite first_stage in
      let t = and_i F (all_finite last_stage)
      (and_i R (all_finite first_stage) (and_i U (all_finite rotation_stage) (and_i K (all_finite translation_stage) (and_i Q (all_finite scale_stage) q k) u) r) f)
      l in
      (judged-passed (F && all_finite last_stage) last_stage t, judged-matrix (F && all_finite last_stage) last_stage t)

  -- ---- where the composition is not refused
  module _ (c : Composed trans rotate scale) where
    translation-at : (Transform-translate trans).m ≡ translation_stage
    translation-at = ap (λ (v : Vector3f). translation v.x v.y v.z) (sym (translation-same a.t0 a.t1 x))

    rotation-at : (Transform-from_quaternion rotate).m ≡ rotation_stage
    rotation-at = rotation-same rotate

    scale_at : Matrix4x4-to_rows scale_transform.m ≡ scale
    scale_at =
        ap (λ (r : TransformAnswer). Matrix4x4-to_rows r.transform.m) (from-matrix-accepted scale (sym (from-matrix-refusal scale) ∙ c.inverse))
        ∙ scale-rows a.rigid (Matrix4x4-to_rows s0) (Matrix4x4-to_rows s1) x

    stage_at : scale ≡ Matrix4x4-to_rows scale_stage
    stage_at = sym (scale-by-same a.rigid s0 s1 x)

    rotation-passed : T (all_finite rotation_stage)
    rotation-passed = subst (λ (b : Matrix4x4). T (all_finite b)) rotation-at (matrix-half (Transform-from_quaternion rotate) c.rotation-finite)

    scale-passed : T (all_finite scale_stage)
    scale-passed = subst (λ (b : Rows). T (Matrix4x4-is_finite b)) stage_at c.scale-finite

    first-at : (first_product trans rotate).m ≡ first_stage
    first-at =
        product-half (Transform-translate trans) (Transform-from_quaternion rotate)
        ∙ ap (λ (b : Matrix4x4). product b (Transform-from_quaternion rotate).m) translation-at
        ∙ ap (product translation_stage) rotation-at
        ∙ product-same translation_stage rotation_stage refl (rotation-bottom rotate) rotation-passed

    last-at : (last_product trans rotate scale).m ≡ last_stage
    last-at =
        product-half (first_product trans rotate) scale_transform
        ∙ ap (λ (b : Matrix4x4). product b scale_transform.m) first-at
        ∙ ap (λ (b : Rows). product first_stage (Matrix4x4-from_rows b)) (scale_at ∙ stage_at)
        ∙ product-same first_stage scale_stage (mul-bottom translation_stage rotation_stage) (scale-by-bottom a.rigid s0 s1 x) scale-passed

    composed-passed : ((Pose-matrix a s0 s1 x).refusal ≡ 0) × ((Pose-matrix a s0 s1 x).m ≡ last_stage)
    composed-passed =
        pose-passed
        c.rotate-finite
        scale-passed
        (subst (λ (b : Matrix4x4). T (all_finite b)) translation-at (matrix-half (Transform-translate trans) c.translation-finite))
        rotation-passed
        (subst (λ (b : Matrix4x4). T (all_finite b)) first-at (matrix-half (first_product trans rotate) c.first-finite))
        (subst (λ (b : Matrix4x4). T (all_finite b)) last-at (matrix-half (last_product trans rotate scale) c.last-finite))

  module _ (z : (Pose-transform a s0 s1 x).refusal ≡ 0) where
    accepted : Composed trans rotate scale
    unfolding Pose-transform
    accepted = composed-accepted trans rotate scale z

    matrix-at : (Pose-transform a s0 s1 x).transform.m ≡ last_stage
    unfolding Pose-transform
    matrix-at = ap (λ (r : TransformAnswer). r.transform.m) accepted.value ∙ last-at accepted

    pub transform-pose : ((Pose-matrix a s0 s1 x).refusal ≡ 0) × ((Pose-transform a s0 s1 x).transform.m ≡ (Pose-matrix a s0 s1 x).m)
    transform-pose = let p = composed-passed accepted in (p.0, matrix-at ∙ sym p.1)

    pub transform-point : (p : Point3f) → Finite p → Transform-transform_point (Pose-transform a s0 s1 x).transform p ≡ Pose-moved_point a s0 s1 x p
    transform-point p f =
        let t = (Pose-transform a s0 s1 x).transform in
        let bottom = ap (λ (b : Matrix4x4). b.r3) matrix-at ∙ mul-bottom first_stage scale_stage in
        point-affine t p (affine-bottom t.m bottom) f
        ∙ ap (λ (b : Matrix4x4). PointAnswer-judged (Pose-transform_point b p)) transform-pose.1
        ∙ moved p transform-pose.0
      where
        moved : (p : Point3f) → (Pose-matrix a s0 s1 x).refusal ≡ 0
            → PointAnswer-judged (Pose-transform_point (Pose-matrix a s0 s1 x).m p) ≡ Pose-moved_point a s0 s1 x p
        moved p h = unfold Pose-moved_point PointAnswer-judged in rw h

-- ---- at a time between the poses
abbrev pub dt_at : AnimatedTransform → Float → Float
dt_at m time = dt m.start_time m.end_time time

pub interpolate-composition : (m : AnimatedTransform) (time : Float) → Between m time → (AnimatedTransform-interpolate m time).refusal ≡ 0
    → (AnimatedTransform-interpolate m time).transform
    ≡ composition m.t0 m.t1 m.r0 m.r1 (scale_transform (motion m) m.s0 m.s1 (dt_at m time)) (dt_at m time)
unfolding AnimatedTransform-pose_at composition PoseConstants-new
interpolate-composition m time b z =
    let x = dt_at m time in
    let at = interpolate-between m (AnimatedTransform-pose_at m) time b in
    ap (λ (r : TransformAnswer). r.transform)
    (at ∙ (composed-accepted (lerp_translation m.t0 m.t1 x) (Quaternion-slerp m.r0 m.r1 x)
    (lerp_scale_by m.rigid (Matrix4x4-to_rows m.s0) (Matrix4x4-to_rows m.s1) x) (ap (λ (r : TransformAnswer). r.refusal) (sym at) ∙ z)).value)
