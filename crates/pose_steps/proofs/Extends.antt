-- Each stage's interval reading is an interval extension of its float reading, over the structs (`translation-extends` and its like), and so is the sequence:
-- `matrix-extends`, `moved_point-extends`. So wherever a slice is accepted, the point query inside it is answered. Rests on `stage-extends` of formula.
use mathlib.Core.Path.{◌≡◌, refl}
use Prim.Native.Nat.{ℕ}
use mathlib.Core.Bool.{Bool, true, false, ◌&&◌}
use mathlib.Core.List.{[], ◌∷◌, ◌++◌}
use lib.Dec.{T}
use lib.Ieee.{Float}
use lib.Ieee.Fits.{and_i}
use lib.Ieee.Bits.{is_true}
use lib.Ieee.Scale.{finite}
use Rattle.matrix4x4.specs.float32.Operators.{one}
use Rattle.matrix4x4.proofs.float32.Constants.{zero-finite, one-finite}
use Rattle.vector3.specs.declared.Vector3f.{Vector3f}
use Rattle.quaternion.specs.declared.Quaternion.{Quaternion}
use Rattle.quaternion.specs.IsFinite.{Quaternion-is_finite}
use Rattle.matrix4x4.specs.declared.Matrix4x4.{Matrix4x4}
use Rattle.matrix4x4.specs.Rows.{Row, positive_zero}
use Rattle.rotation.specs.bounds3.declared.Point3f.{Point3f}
use Rattle.rotation.specs.bounds3.Finite.{Point3f-is_finite}
use Rattle.rotation.specs.bounds3.List.{Point3f-list}
use Rattle.rotation.specs.transform.Transform.{translation}
use Rattle.interval.specs.declared.Interval.{Interval}
use Rattle.unit_interval.specs.Unit.{unit_interval}
use Rattle.interval.specs.Contains.{Contains, Subset, Encloses}
use Rattle.interval.proofs.Contains.{point-encloses, subset-finite}
use Rattle.formula.specs.Enclose.{enclosure}
use Rattle.formula.specs.Promise.{Pairwise}
use Rattle.formula.proofs.Pairwise.{pairwise_append}
use Rattle.formula.proofs.Stage.{stage-extends}
use Rattle.pose_steps.specs.declared.PoseConstants.{PoseConstants}
use Rattle.pose_steps.specs.declared.IntervalVector.{IntervalVector}
use Rattle.pose_steps.specs.declared.IntervalQuaternion.{IntervalQuaternion}
use Rattle.pose_steps.specs.declared.IntervalRow.{IntervalRow}
use Rattle.pose_steps.specs.declared.IntervalMatrix.{IntervalMatrix}
use Rattle.pose_steps.specs.Stages.{translation_stage, slerp_near_stage, slerp_far_stage, scale_row_stage, rotation_stage, mul_row_stage, transform_point_stage}
use Rattle.pose_steps.specs.Pose.{Vector3f-list, Quaternion-list, Matrix4x4-list, three, entries, Pose-translation, Pose-slerp_near}
use Rattle.pose_steps.specs.Pose.{Pose-slerp_far, slerp_by, is_near, Pose-slerp, Pose-scale_row, Pose-scale, Pose-scale_by, Pose-rotation}
use Rattle.pose_steps.specs.Pose.{Pose-mul_row, Pose-mul, Pose-transform_point, all_finite, PoseAnswer-judged, Pose-matrix, Pose-moved_point}
use Rattle.pose_steps.specs.Enclose.{IntervalVector-list, IntervalVector-point, IntervalQuaternion-list, IntervalQuaternion-point}
use Rattle.pose_steps.specs.Enclose.{IntervalRow-list, IntervalRow-three, IntervalMatrix-list, IntervalMatrix-point, Pose-enclose_translation}
use Rattle.pose_steps.specs.Enclose.{Pose-enclose_slerp_near, Pose-enclose_slerp_far, enclose_slerp_by, Pose-enclose_slerp, Pose-enclose_scale_row}
use Rattle.pose_steps.specs.Enclose.{Pose-enclose_scale, enclose_scale_by, Pose-enclose_rotation, Pose-enclose_mul_row, Pose-enclose_mul}
use Rattle.pose_steps.specs.Enclose.{Pose-enclose_transform_point, IntervalMatrix-translation, Pose-enclose_matrix, Pose-enclose_point}
use Rattle.pose_steps.specs.Promise.{AllFinite, PoseConstants-Valid, FiniteScale, quarter_interval}
use Rattle.pose_steps.specs.Promise.{EnclosesScale, EnclosesMatrix, EnclosesPose, EnclosesAnswer}
use Rattle.pose_steps.proofs.Angle.{unit-finite, theta-angles, theta-finite, theta-subset}
use Rattle.pose_steps.proofs.Valid.{translation-valid, near-valid, far-valid, scale-valid, rotation-valid, mul-valid, point-valid}
use Rattle.pose_steps.proofs.Zero.{slerp-zero, scale-row-zero, scale-by-zero, rotation-zero, mul-row-zero, mul-zero, point-zero}
use Rattle.pose_steps.proofs.Rows.{scale-by-bottom, identity-encloses, rotation-bottom, mul-bottom, points-enclose, scale-encloses}
use Rattle.pose_steps.proofs.Rows.{rows-list, encloses-list, list-encloses, enclosed-finite, matrix-finite}

-- ---- the stages that take dt
module _ (m : ℕ) {D : Interval} {dt : Float} (d : Encloses D dt) where
  pub translation-extends : (T0 T1 : IntervalVector) (t0 t1 : Vector3f)
      → Pairwise Encloses (IntervalVector-list T0) (Vector3f-list t0) → Pairwise Encloses (IntervalVector-list T1) (Vector3f-list t1)
      → (Pose-enclose_translation m T0 T1 D).refusal ≡ 0
      → Pairwise Encloses (IntervalVector-list (Pose-enclose_translation m T0 T1 D).vector) (Vector3f-list (Pose-translation t0 t1 dt))
  unfolding Pose-translation Pose-enclose_translation
  translation-extends T0 T1 t0 t1 e f =
      stage-extends translation_stage (enclosure m (IntervalVector-list T0 ++ IntervalVector-list T1 ++ D ∷ []))
      (Vector3f-list t0 ++ Vector3f-list t1 ++ dt ∷ []) (translation-valid m D T0 T1)
      (λ z. rows-list Encloses (IntervalVector-list T0) (IntervalVector-list T1) (D ∷ []) (Vector3f-list t0) (Vector3f-list t1) (dt ∷ []) e f (d, tt))

  module _ (P Q : IntervalQuaternion) (p q : Quaternion) (e : Pairwise Encloses (IntervalQuaternion-list P) (Quaternion-list p))
      (f : Pairwise Encloses (IntervalQuaternion-list Q) (Quaternion-list q)) where
    pub near-extends : (Pose-enclose_slerp_near m P Q D).refusal ≡ 0
        → Pairwise Encloses (IntervalQuaternion-list (Pose-enclose_slerp_near m P Q D).quaternion) (Quaternion-list (Pose-slerp_near p q dt))
    unfolding Pose-slerp_near Pose-enclose_slerp_near
    near-extends =
        stage-extends slerp_near_stage (enclosure m (IntervalQuaternion-list P ++ IntervalQuaternion-list Q ++ D ∷ []))
        (Quaternion-list p ++ Quaternion-list q ++ dt ∷ []) (near-valid m D P Q)
        (λ z. rows-list Encloses (IntervalQuaternion-list P) (IntervalQuaternion-list Q) (D ∷ []) (Quaternion-list p) (Quaternion-list q) (dt ∷ []) e f (d, tt))

    -- theta times dt is an angle
    pub far-extends : {C Θ : Interval} {cosθ θ : Float} → Encloses C cosθ → Encloses Θ θ
        → Subset Θ quarter_interval → Subset D unit_interval → (Pose-enclose_slerp_far m P Q C Θ D).refusal ≡ 0
        → Pairwise Encloses (IntervalQuaternion-list (Pose-enclose_slerp_far m P Q C Θ D).quaternion) (Quaternion-list (Pose-slerp_far p q cosθ θ dt))
    unfolding Pose-slerp_far Pose-enclose_slerp_far
    far-extends {C} {Θ} {cosθ} {θ} c t u v =
        stage-extends slerp_far_stage (enclosure m (IntervalQuaternion-list P ++ IntervalQuaternion-list Q ++ C ∷ Θ ∷ D ∷ []))
        (Quaternion-list p ++ Quaternion-list q ++ cosθ ∷ θ ∷ dt ∷ [])
        (far-valid m D P Q C Θ (theta-angles u v))
        (λ z.
        rows-list Encloses (IntervalQuaternion-list P) (IntervalQuaternion-list Q)
        (C ∷ Θ ∷ D ∷ []) (Quaternion-list p) (Quaternion-list q) (cosθ ∷ θ ∷ dt ∷ []) e f
        (c, (t, (d, tt))))

  pub slerp-extends : (a : PoseConstants) → PoseConstants-Valid a → Subset D unit_interval → (Pose-enclose_slerp m a D).refusal ≡ 0
      → Pairwise Encloses (IntervalQuaternion-list (Pose-enclose_slerp m a D).quaternion) (Quaternion-list (Pose-slerp a dt))
  unfolding Pose-slerp Pose-enclose_slerp slerp_by enclose_slerp_by
  slerp-extends a v u = go (is_near a)
    where
      go : (b : Bool) → (enclose_slerp_by b m a D).refusal ≡ 0
          → Pairwise Encloses (IntervalQuaternion-list (enclose_slerp_by b m a D).quaternion) (Quaternion-list (slerp_by b a dt))
      go true =
          near-extends (IntervalQuaternion-point a.r0) (IntervalQuaternion-point a.r1) a.r0 a.r1
          (points-enclose (Quaternion-list a.r0) v.r0) (points-enclose (Quaternion-list a.r1) v.r1)
      go false =
          far-extends (IntervalQuaternion-point a.r0) (IntervalQuaternion-point a.r1) a.r0 a.r1
          (points-enclose (Quaternion-list a.r0) v.r0) (points-enclose (Quaternion-list a.r1) v.r1)
          (point-encloses a.cos_theta v.cos_theta) (point-encloses a.theta (theta-finite v.theta-from-zero v.theta-to-quarter))
          (theta-subset v.theta-from-zero v.theta-to-quarter) u

pub scale-row-extends : (m : ℕ) {D : Interval} {dt : Float} → Encloses D dt → (R S : IntervalRow) (r s : Row)
    → Pairwise Encloses (IntervalRow-three R) (three r) → Pairwise Encloses (IntervalRow-three S) (three s) → (Pose-enclose_scale_row m R S D).refusal ≡ 0
    → Pairwise Encloses (IntervalRow-list (Pose-enclose_scale_row m R S D).row) (entries (Pose-scale_row r s dt))
unfolding Pose-scale_row Pose-enclose_scale_row
scale-row-extends m {D} {dt} d R S r s e f =
    stage-extends scale_row_stage (enclosure m (IntervalRow-three R ++ IntervalRow-three S ++ D ∷ [])) (three r ++ three s ++ dt ∷ []) (scale-valid m D R S)
    (λ z. rows-list Encloses (IntervalRow-three R) (IntervalRow-three S) (D ∷ []) (three r) (three s) (dt ∷ []) e f (d, tt))

pub scale-extends : (m : ℕ) {D : Interval} {dt : Float} → Encloses D dt → {A B : IntervalMatrix} {a b : Matrix4x4}
    → EnclosesScale A a → EnclosesScale B b → (Pose-enclose_scale m A B D).refusal ≡ 0
    → EnclosesMatrix (Pose-enclose_scale m A B D).matrix (Pose-scale a b dt)
unfolding Pose-scale Pose-enclose_scale
scale-extends m {D} d {A} {B} {a} {b} e f z =
    let p = Pose-enclose_scale_row m A.r0 B.r0 D in
    let q = Pose-enclose_scale_row p.refusal A.r1 B.r1 D in
    let zq = scale-row-zero q.refusal A.r2 B.r2 D z in
    let zp = scale-row-zero p.refusal A.r1 B.r1 D zq in
    record {
      r0 = scale-row-extends m d A.r0 B.r0 a.r0 b.r0 e.r0 f.r0 zp;
      r1 = scale-row-extends p.refusal d A.r1 B.r1 a.r1 b.r1 e.r1 f.r1 zq;
      r2 = scale-row-extends q.refusal d A.r2 B.r2 a.r2 b.r2 e.r2 f.r2 z;
    }

pub scale-by-extends : (k : Bool) (m : ℕ) {D : Interval} {dt : Float} → Encloses D dt → {s0 s1 : Matrix4x4} → FiniteScale s0 → FiniteScale s1
    → (enclose_scale_by k m s0 s1 D).refusal ≡ 0 → EnclosesMatrix (enclose_scale_by k m s0 s1 D).matrix (Pose-scale_by k s0 s1 dt)
unfolding Pose-scale_by enclose_scale_by
scale-by-extends true m d f g z = identity-encloses
scale-by-extends false m d f g z = scale-extends m d (scale-encloses f) (scale-encloses g) z

-- ---- the stages that take what was worked out before
pub rotation-extends : (m : ℕ) {Q : IntervalQuaternion} (q : Quaternion)
    → Pairwise Encloses (IntervalQuaternion-list Q) (Quaternion-list q) → (Pose-enclose_rotation m Q).refusal ≡ 0
    → EnclosesMatrix (Pose-enclose_rotation m Q).matrix (Pose-rotation q)
unfolding Pose-rotation Pose-enclose_rotation
rotation-extends m {Q} q e z =
    list-encloses (Pose-enclose_rotation m Q).matrix (Pose-rotation q)
    (stage-extends rotation_stage (enclosure m (IntervalQuaternion-list Q)) (Quaternion-list q) (rotation-valid m Q) (λ y. e) z)

pub mul-row-extends : (m : ℕ) {R : IntervalRow} {M : IntervalMatrix} (r : Row) {b : Matrix4x4}
    → Pairwise Encloses (IntervalRow-list R) (entries r) → EnclosesMatrix M b
    → (Pose-enclose_mul_row m R M).refusal ≡ 0 → Pairwise Encloses (IntervalRow-list (Pose-enclose_mul_row m R M).row) (entries (Pose-mul_row r b))
unfolding Pose-mul_row Pose-enclose_mul_row
mul-row-extends m {R} {M} r {b} e f =
    stage-extends mul_row_stage (enclosure m (IntervalRow-list R ++ IntervalMatrix-list M)) (entries r ++ Matrix4x4-list b) (mul-valid m R M)
    (λ y. pairwise_append Encloses (IntervalRow-list R) (IntervalMatrix-list M) (entries r) (Matrix4x4-list b) e (encloses-list f))

pub mul-extends : (m : ℕ) {A B : IntervalMatrix} {a b : Matrix4x4} → EnclosesMatrix A a → EnclosesMatrix B b → (Pose-enclose_mul m A B).refusal ≡ 0
    → EnclosesMatrix (Pose-enclose_mul m A B).matrix (Pose-mul a b)
unfolding Pose-mul Pose-enclose_mul
mul-extends m {A} {B} {a} {b} e f z =
    let p = Pose-enclose_mul_row m A.r0 B in
    let q = Pose-enclose_mul_row p.refusal A.r1 B in
    let zq = mul-row-zero q.refusal A.r2 B z in
    let zp = mul-row-zero p.refusal A.r1 B zq in
    record {
      r0 = mul-row-extends m a.r0 e.r0 f zp;
      r1 = mul-row-extends p.refusal a.r1 e.r1 f zq;
      r2 = mul-row-extends q.refusal a.r2 e.r2 f z;
    }

pub transform_point-extends : (m : ℕ) {M : IntervalMatrix} {P : IntervalVector} {b : Matrix4x4} {p : Point3f}
    → EnclosesMatrix M b → Pairwise Encloses (IntervalVector-list P) (Point3f-list p)
    → (Pose-enclose_transform_point m M P).refusal ≡ 0
    → Pairwise Encloses (IntervalVector-list (Pose-enclose_transform_point m M P).vector) (Point3f-list (Pose-transform_point b p))
unfolding Pose-transform_point Pose-enclose_transform_point
transform_point-extends m {M} {P} {b} {p} e f =
    stage-extends transform_point_stage (enclosure m (IntervalMatrix-list M ++ IntervalVector-list P)) (Matrix4x4-list b ++ Point3f-list p) (point-valid m M P)
    (λ y. pairwise_append Encloses (IntervalMatrix-list M) (IntervalVector-list P) (Matrix4x4-list b) (Point3f-list p) (encloses-list e) f)

-- ---- in sequence
translation-matrix-extends : {W : IntervalVector} (v : Vector3f) → Pairwise Encloses (IntervalVector-list W) (Vector3f-list v)
    → EnclosesMatrix (IntervalMatrix-translation W) (translation v.x v.y v.z)
translation-matrix-extends {W} v (x, (y, (z, e))) =
    let i = point-encloses positive_zero zero-finite in
    let j = point-encloses one one-finite in
    record { r0 = (j, (i, (i, (x, tt)))); r1 = (i, (j, (i, (y, tt)))); r2 = (i, (i, (j, (z, tt)))) }

quaternion-finite : (q : Quaternion) → AllFinite (Quaternion-list q) → T (Quaternion-is_finite q)
unfolding Quaternion-is_finite
quaternion-finite q (x, (y, (z, (w, e)))) =
    let X = finite q.v.x in
    let Y = finite q.v.y in
    let Z = finite q.v.z in
    and_i (X && Y && Z) (finite q.w) (and_i (X && Y) Z (and_i X Y x y) z) w

judged-pose : {M : IntervalMatrix} {m : Matrix4x4} (b : Bool) → T b → EnclosesMatrix M m → EnclosesPose M (PoseAnswer-judged b m)
unfolding PoseAnswer-judged
judged-pose true t e = record { accepted = refl; encloses = e }
judged-pose false t e = absurd t

module _ {a : PoseConstants} {s0 s1 : Matrix4x4} (v : PoseConstants-Valid a) (f : FiniteScale s0) (g : FiniteScale s1)
    {D : Interval} {dt : Float} (u : Subset D unit_interval) (d : Contains D dt) where
  pub matrix-extends : (Pose-enclose_matrix a s0 s1 D).refusal ≡ 0 → EnclosesPose (Pose-enclose_matrix a s0 s1 D).matrix (Pose-matrix a s0 s1 dt)
  unfolding Pose-matrix Pose-enclose_matrix
  matrix-extends z =
      let e : Encloses D dt = record { finite = subset-finite unit-finite u; contains = d } in
      let t0 = IntervalVector-point a.t0 in
      let t1 = IntervalVector-point a.t1 in
      let I = Pose-enclose_translation 0 t0 t1 D in
      let J = Pose-enclose_slerp I.refusal a D in
      let K = enclose_scale_by a.rigid J.refusal s0 s1 D in
      let L = Pose-enclose_rotation K.refusal J.quaternion in
      let M = Pose-enclose_mul L.refusal (IntervalMatrix-translation I.vector) L.matrix in
      let zM = mul-zero M.refusal M.matrix K.matrix z in
      let zL = mul-zero L.refusal (IntervalMatrix-translation I.vector) L.matrix zM in
      let zK = rotation-zero K.refusal J.quaternion zL in
      let zJ = scale-by-zero a.rigid J.refusal s0 s1 D zK in
      let zI = slerp-zero I.refusal a D zJ in
      let trans = Pose-translation a.t0 a.t1 dt in
      let rotate = Pose-slerp a dt in
      let scale = Pose-scale_by a.rigid s0 s1 dt in
      let translate = translation trans.x trans.y trans.z in
      let rotation = Pose-rotation rotate in
      let first = Pose-mul translate rotation in
      let last = Pose-mul first scale in
      let q = slerp-extends I.refusal e a v u zJ in
      let k = scale-by-extends a.rigid J.refusal e f g zK in
      let t = translation-matrix-extends trans
      (translation-extends 0 e t0 t1 a.t0 a.t1 (points-enclose (Vector3f-list a.t0) v.t0) (points-enclose (Vector3f-list a.t1) v.t1) zI) in
      let l = rotation-extends K.refusal rotate q zL in
      let m = mul-extends L.refusal t l zM in
      let n = mul-extends M.refusal m k z in
      let Q = Quaternion-is_finite rotate in
      let S = Q && all_finite scale in
      let U = S && all_finite translate in
      let R = U && all_finite rotation in
      let F = R && all_finite first in
      judged-pose (F && all_finite last)
      (and_i F (all_finite last)
      (and_i R (all_finite first)
      (and_i U (all_finite rotation)
      (and_i S (all_finite translate)
      (and_i Q (all_finite scale) (quaternion-finite rotate (enclosed-finite (IntervalQuaternion-list J.quaternion) (Quaternion-list rotate) q))
      (matrix-finite scale (scale-by-bottom a.rigid s0 s1 dt) k))
      (matrix-finite translate refl t))
      (matrix-finite rotation (rotation-bottom rotate) l))
      (matrix-finite first (mul-bottom translate rotation) m))
      (matrix-finite last (mul-bottom first scale) n))
      n

  pub moved_point-extends : {P : IntervalVector} {p : Point3f} → Pairwise Encloses (IntervalVector-list P) (Point3f-list p)
      → (Pose-enclose_point a s0 s1 D P).refusal ≡ 0 → EnclosesAnswer (Pose-enclose_point a s0 s1 D P).vector (Pose-moved_point a s0 s1 dt p)
  unfolding Pose-enclose_point Pose-moved_point Point3f-is_finite
  moved_point-extends {P} {p} e z =
      let M = Pose-enclose_matrix a s0 s1 D in
      let m = matrix-extends (point-zero M.refusal M.matrix P z) in
      let r = Pose-matrix a s0 s1 dt in
      let q = Pose-transform_point r.m p in
      let i = transform_point-extends M.refusal m.encloses e z in
      let (x, (y, (w, n))) = enclosed-finite (IntervalVector-list (Pose-enclose_transform_point M.refusal M.matrix P).vector) (Point3f-list q) i in
      let t = is_true (finite q.x && finite q.y && finite q.z)
      (and_i (finite q.x && finite q.y) (finite q.z) (and_i (finite q.x) (finite q.y) x y) w) in
      record { point = q; moved = rw (m.accepted, t); encloses = i }
