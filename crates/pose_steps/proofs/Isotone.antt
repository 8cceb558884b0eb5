-- Each stage's interval reading is inclusion isotone, over the structs (`translation-isotone` and its like), and so is the sequence: `matrix-isotone`,
-- `point-isotone`. A narrower interval of dt and a narrower box are not newly refused, and give a narrower box. Rests on `stage-isotone` of formula.
use mathlib.Core.Path.{◌≡◌, refl}
use Prim.Native.Nat.{ℕ}
use mathlib.Core.Bool.{Bool, true, false}
use mathlib.Core.List.{[], ◌∷◌, ◌++◌}
use lib.Ieee.Scale.{finite}
use Rattle.matrix4x4.specs.float32.Operators.{one}
use Rattle.matrix4x4.proofs.float32.Constants.{zero-finite, one-finite}
use Rattle.matrix4x4.specs.declared.Matrix4x4.{Matrix4x4}
use Rattle.matrix4x4.specs.Rows.{positive_zero}
use Rattle.interval.specs.declared.Interval.{Interval}
use Rattle.unit_interval.specs.Unit.{unit_interval}
use Rattle.interval.specs.Contains.{Subset, Refines}
use Rattle.interval.proofs.Contains.{point-refines, subset-finite}
use Rattle.formula.specs.Enclose.{enclosure}
use Rattle.formula.specs.Promise.{Pairwise}
use Rattle.formula.proofs.Pairwise.{pairwise_append}
use Rattle.formula.proofs.Stage.{stage-isotone}
use Rattle.pose_steps.specs.declared.PoseConstants.{PoseConstants}
use Rattle.pose_steps.specs.declared.IntervalVector.{IntervalVector}
use Rattle.pose_steps.specs.declared.IntervalQuaternion.{IntervalQuaternion}
use Rattle.pose_steps.specs.declared.IntervalRow.{IntervalRow}
use Rattle.pose_steps.specs.declared.IntervalMatrix.{IntervalMatrix}
use Rattle.pose_steps.specs.Stages.{translation_stage, slerp_near_stage, slerp_far_stage, scale_row_stage, rotation_stage, mul_row_stage, transform_point_stage}
use Rattle.pose_steps.specs.Pose.{Vector3f-list, Quaternion-list, is_near}
use Rattle.pose_steps.specs.Enclose.{IntervalVector-list, IntervalVector-point, IntervalQuaternion-list, IntervalQuaternion-point}
use Rattle.pose_steps.specs.Enclose.{IntervalRow-list, IntervalRow-three, IntervalMatrix-list, IntervalMatrix-point, Pose-enclose_translation}
use Rattle.pose_steps.specs.Enclose.{Pose-enclose_slerp_near, Pose-enclose_slerp_far, enclose_slerp_by, Pose-enclose_slerp, Pose-enclose_scale_row}
use Rattle.pose_steps.specs.Enclose.{Pose-enclose_scale, enclose_scale_by, Pose-enclose_rotation, Pose-enclose_mul_row, Pose-enclose_mul}
use Rattle.pose_steps.specs.Enclose.{Pose-enclose_transform_point, IntervalMatrix-translation, Pose-enclose_matrix, Pose-enclose_point}
use Rattle.pose_steps.specs.Promise.{PoseConstants-Valid, FiniteScale, quarter_interval, RefinesScale, RefinesMatrix}
use Rattle.pose_steps.specs.Promise.{NarrowerVector, NarrowerQuaternion, NarrowerRow, NarrowerMatrix}
use Rattle.pose_steps.proofs.Angle.{unit-finite, theta-angles, theta-finite, theta-subset}
use Rattle.pose_steps.proofs.Valid.{translation-valid, near-valid, far-valid, scale-valid, rotation-valid, mul-valid, point-valid}
use Rattle.pose_steps.proofs.Zero.{slerp-zero, scale-row-zero, scale-by-zero, rotation-zero, mul-row-zero, mul-zero, point-zero}
use Rattle.pose_steps.proofs.Rows.{points-refine, scale-refines, identity-refines, rows-list, refines-list, list-refines}

-- ---- the stages that take dt; m was met with the narrower intervals, m' with the wider ones
module _ (m' : ℕ) {m : ℕ} (k : m ≡ 0) {D D' : Interval} (d : Refines D D') where
  pub translation-isotone : (T0 T0' T1 T1' : IntervalVector) → Pairwise Refines (IntervalVector-list T0) (IntervalVector-list T0')
      → Pairwise Refines (IntervalVector-list T1) (IntervalVector-list T1')
      → NarrowerVector (Pose-enclose_translation m T0 T1 D) (Pose-enclose_translation m' T0' T1' D')
  unfolding Pose-enclose_translation
  translation-isotone T0 T0' T1 T1' e f =
      stage-isotone translation_stage (enclosure m (IntervalVector-list T0 ++ IntervalVector-list T1 ++ D ∷ []))
      (enclosure m' (IntervalVector-list T0' ++ IntervalVector-list T1' ++ D' ∷ []))
      (translation-valid m' D' T0' T1')
      (λ z. (
        k,
        rows-list Refines (IntervalVector-list T0) (IntervalVector-list T1) (D ∷ [])
            (IntervalVector-list T0') (IntervalVector-list T1') (D' ∷ []) e f (d, tt),
      ))

  module _ (P P' Q Q' : IntervalQuaternion) (e : Pairwise Refines (IntervalQuaternion-list P) (IntervalQuaternion-list P'))
      (f : Pairwise Refines (IntervalQuaternion-list Q) (IntervalQuaternion-list Q')) where
    pub near-isotone : NarrowerQuaternion (Pose-enclose_slerp_near m P Q D) (Pose-enclose_slerp_near m' P' Q' D')
    unfolding Pose-enclose_slerp_near
    near-isotone =
        stage-isotone slerp_near_stage (enclosure m (IntervalQuaternion-list P ++ IntervalQuaternion-list Q ++ D ∷ []))
        (enclosure m' (IntervalQuaternion-list P' ++ IntervalQuaternion-list Q' ++ D' ∷ [])) (near-valid m' D' P' Q')
        (λ z. (
          k,
          rows-list Refines (IntervalQuaternion-list P) (IntervalQuaternion-list Q) (D ∷ [])
              (IntervalQuaternion-list P') (IntervalQuaternion-list Q') (D' ∷ []) e f (d, tt),
        ))

    -- theta times dt is an angle
    pub far-isotone : {C C' Θ Θ' : Interval} → Refines C C' → Refines Θ Θ' → Subset Θ' quarter_interval → Subset D' unit_interval
        → NarrowerQuaternion (Pose-enclose_slerp_far m P Q C Θ D) (Pose-enclose_slerp_far m' P' Q' C' Θ' D')
    unfolding Pose-enclose_slerp_far
    far-isotone {C} {C'} {Θ} {Θ'} c t u v =
        stage-isotone slerp_far_stage (enclosure m (IntervalQuaternion-list P ++ IntervalQuaternion-list Q ++ C ∷ Θ ∷ D ∷ []))
        (enclosure m' (IntervalQuaternion-list P' ++ IntervalQuaternion-list Q' ++ C' ∷ Θ' ∷ D' ∷ [])) (far-valid m' D' P' Q' C' Θ' (theta-angles u v))
        (λ z. (
          k,
          rows-list Refines (IntervalQuaternion-list P) (IntervalQuaternion-list Q) (C ∷ Θ ∷ D ∷ [])
              (IntervalQuaternion-list P') (IntervalQuaternion-list Q') (C' ∷ Θ' ∷ D' ∷ []) e f
              (c, (t, (d, tt))),
        ))

  pub slerp-isotone : (a : PoseConstants) → PoseConstants-Valid a → Subset D' unit_interval
      → NarrowerQuaternion (Pose-enclose_slerp m a D) (Pose-enclose_slerp m' a D')
  unfolding Pose-enclose_slerp enclose_slerp_by
  slerp-isotone a v u = go (is_near a)
    where
      go : (b : Bool) → NarrowerQuaternion (enclose_slerp_by b m a D) (enclose_slerp_by b m' a D')
      go true =
          let p = IntervalQuaternion-point a.r0 in
          let q = IntervalQuaternion-point a.r1 in
          near-isotone p p q q (points-refine (Quaternion-list a.r0) v.r0) (points-refine (Quaternion-list a.r1) v.r1)
      go false =
          let p = IntervalQuaternion-point a.r0 in
          let q = IntervalQuaternion-point a.r1 in
          far-isotone p p q q (points-refine (Quaternion-list a.r0) v.r0) (points-refine (Quaternion-list a.r1) v.r1)
          (point-refines a.cos_theta v.cos_theta) (point-refines a.theta (theta-finite v.theta-from-zero v.theta-to-quarter))
          (theta-subset v.theta-from-zero v.theta-to-quarter) u

  pub scale-row-isotone : (R R' S S' : IntervalRow) → Pairwise Refines (IntervalRow-three R) (IntervalRow-three R')
      → Pairwise Refines (IntervalRow-three S) (IntervalRow-three S')
      → NarrowerRow (Pose-enclose_scale_row m R S D) (Pose-enclose_scale_row m' R' S' D')
  unfolding Pose-enclose_scale_row
  scale-row-isotone R R' S S' e f =
      stage-isotone scale_row_stage (enclosure m (IntervalRow-three R ++ IntervalRow-three S ++ D ∷ []))
      (enclosure m' (IntervalRow-three R' ++ IntervalRow-three S' ++ D' ∷ []))
      (scale-valid m' D' R' S')
      (λ z. (k, rows-list Refines (IntervalRow-three R) (IntervalRow-three S) (D ∷ []) (IntervalRow-three R') (IntervalRow-three S') (D' ∷ []) e f (d, tt)))

pub scale-isotone : (m' : ℕ) {m : ℕ} → m ≡ 0 → {D D' : Interval} → Refines D D' → {A A' B B' : IntervalMatrix} → RefinesScale A A' → RefinesScale B B'
    → NarrowerMatrix (Pose-enclose_scale m A B D) (Pose-enclose_scale m' A' B' D')
unfolding Pose-enclose_scale
scale-isotone m' k {D} {D'} d {A} {A'} {B} {B'} e f z =
    let p' = Pose-enclose_scale_row m' A'.r0 B'.r0 D' in
    let q' = Pose-enclose_scale_row p'.refusal A'.r1 B'.r1 D' in
    let zq = scale-row-zero q'.refusal A'.r2 B'.r2 D' z in
    let zp = scale-row-zero p'.refusal A'.r1 B'.r1 D' zq in
    let (kp, a) = scale-row-isotone m' k d A.r0 A'.r0 B.r0 B'.r0 e.r0 f.r0 zp in
    let (kq, b) = scale-row-isotone p'.refusal kp d A.r1 A'.r1 B.r1 B'.r1 e.r1 f.r1 zq in
    let (kr, c) = scale-row-isotone q'.refusal kq d A.r2 A'.r2 B.r2 B'.r2 e.r2 f.r2 z in
    (kr, record { r0 = a; r1 = b; r2 = c })

pub scale-by-isotone : (b : Bool) (m' : ℕ) {m : ℕ} → m ≡ 0 → {D D' : Interval} → Refines D D' → {s0 s1 : Matrix4x4} → FiniteScale s0 → FiniteScale s1
    → NarrowerMatrix (enclose_scale_by b m s0 s1 D) (enclose_scale_by b m' s0 s1 D')
unfolding enclose_scale_by
scale-by-isotone true m' k d f g z = (k, identity-refines)
scale-by-isotone false m' k d f g z = scale-isotone m' k d (scale-refines f) (scale-refines g) z

-- ---- the stages that take what was worked out before
module _ (m' : ℕ) {m : ℕ} (k : m ≡ 0) where
  pub rotation-isotone : (Q Q' : IntervalQuaternion) → Pairwise Refines (IntervalQuaternion-list Q) (IntervalQuaternion-list Q')
      → NarrowerMatrix (Pose-enclose_rotation m Q) (Pose-enclose_rotation m' Q')
  unfolding Pose-enclose_rotation
  rotation-isotone Q Q' e z =
      let (h, r) = stage-isotone rotation_stage (enclosure m (IntervalQuaternion-list Q))
      (enclosure m' (IntervalQuaternion-list Q')) (rotation-valid m' Q') (λ y. (k, e)) z in
      (h, list-refines (Pose-enclose_rotation m Q).matrix (Pose-enclose_rotation m' Q').matrix r)

  pub mul-row-isotone : (R R' : IntervalRow) {M M' : IntervalMatrix} → Pairwise Refines (IntervalRow-list R) (IntervalRow-list R') → RefinesMatrix M M'
      → NarrowerRow (Pose-enclose_mul_row m R M) (Pose-enclose_mul_row m' R' M')
  unfolding Pose-enclose_mul_row
  mul-row-isotone R R' {M} {M'} e f =
      stage-isotone mul_row_stage (enclosure m (IntervalRow-list R ++ IntervalMatrix-list M))
      (enclosure m' (IntervalRow-list R' ++ IntervalMatrix-list M')) (mul-valid m' R' M')
      (λ y. (k, pairwise_append Refines (IntervalRow-list R) (IntervalMatrix-list M) (IntervalRow-list R') (IntervalMatrix-list M') e (refines-list f)))

  pub transform_point-isotone : {M M' : IntervalMatrix} (P P' : IntervalVector)
      → RefinesMatrix M M' → Pairwise Refines (IntervalVector-list P) (IntervalVector-list P')
      → NarrowerVector (Pose-enclose_transform_point m M P) (Pose-enclose_transform_point m' M' P')
  unfolding Pose-enclose_transform_point
  transform_point-isotone {M} {M'} P P' e f =
      stage-isotone transform_point_stage (enclosure m (IntervalMatrix-list M ++ IntervalVector-list P))
      (enclosure m' (IntervalMatrix-list M' ++ IntervalVector-list P')) (point-valid m' M' P')
      (λ y. (k, pairwise_append Refines (IntervalMatrix-list M) (IntervalVector-list P) (IntervalMatrix-list M') (IntervalVector-list P') (refines-list e) f))

pub mul-isotone : (m' : ℕ) {m : ℕ} → m ≡ 0 → {A A' B B' : IntervalMatrix} → RefinesMatrix A A'
    → RefinesMatrix B B' → NarrowerMatrix (Pose-enclose_mul m A B) (Pose-enclose_mul m' A' B')
unfolding Pose-enclose_mul
mul-isotone m' k {A} {A'} {B} {B'} e f z =
    let p' = Pose-enclose_mul_row m' A'.r0 B' in
    let q' = Pose-enclose_mul_row p'.refusal A'.r1 B' in
    let zq = mul-row-zero q'.refusal A'.r2 B' z in
    let zp = mul-row-zero p'.refusal A'.r1 B' zq in
    let (kp, a) = mul-row-isotone m' k A.r0 A'.r0 e.r0 f zp in
    let (kq, b) = mul-row-isotone p'.refusal kp A.r1 A'.r1 e.r1 f zq in
    let (kr, c) = mul-row-isotone q'.refusal kq A.r2 A'.r2 e.r2 f z in
    (kr, record { r0 = a; r1 = b; r2 = c })

-- ---- in sequence
translation-matrix-isotone : (W W' : IntervalVector) → Pairwise Refines (IntervalVector-list W) (IntervalVector-list W')
    → RefinesMatrix (IntervalMatrix-translation W) (IntervalMatrix-translation W')
translation-matrix-isotone W W' (x, (y, (z, e))) =
    let i = point-refines positive_zero zero-finite in
    let j = point-refines one one-finite in
    record { r0 = (j, (i, (i, (x, tt)))); r1 = (i, (j, (i, (y, tt)))); r2 = (i, (i, (j, (z, tt)))) }

module _ {a : PoseConstants} {s0 s1 : Matrix4x4} (v : PoseConstants-Valid a) (f : FiniteScale s0) (g : FiniteScale s1)
    {D D' : Interval} (u : Subset D' unit_interval) (d : Subset D D') where
  pub matrix-isotone : NarrowerMatrix (Pose-enclose_matrix a s0 s1 D) (Pose-enclose_matrix a s0 s1 D')
  unfolding Pose-enclose_matrix
  matrix-isotone z =
      let e : Refines D D' = record { finite = subset-finite unit-finite u; subset = d } in
      let t0 = IntervalVector-point a.t0 in
      let t1 = IntervalVector-point a.t1 in
      let I = Pose-enclose_translation 0 t0 t1 D in
      let J = Pose-enclose_slerp I.refusal a D in
      let I' = Pose-enclose_translation 0 t0 t1 D' in
      let J' = Pose-enclose_slerp I'.refusal a D' in
      let K' = enclose_scale_by a.rigid J'.refusal s0 s1 D' in
      let L' = Pose-enclose_rotation K'.refusal J'.quaternion in
      let M' = Pose-enclose_mul L'.refusal (IntervalMatrix-translation I'.vector) L'.matrix in
      let zM = mul-zero M'.refusal M'.matrix K'.matrix z in
      let zL = mul-zero L'.refusal (IntervalMatrix-translation I'.vector) L'.matrix zM in
      let zK = rotation-zero K'.refusal J'.quaternion zL in
      let zJ = scale-by-zero a.rigid J'.refusal s0 s1 D' zK in
      let zI = slerp-zero I'.refusal a D' zJ in
      let (kI, i) =
      translation-isotone 0 refl e t0 t0 t1 t1 (points-refine (Vector3f-list a.t0) v.t0) (points-refine (Vector3f-list a.t1) v.t1) zI in
      let (kJ, j) = slerp-isotone I'.refusal kI e a v u zJ in
      let (kK, k) = scale-by-isotone a.rigid J'.refusal kJ e f g zK in
      let (kL, l) = rotation-isotone K'.refusal kK J.quaternion J'.quaternion j zL in
      let (kM, m) = mul-isotone L'.refusal kL (translation-matrix-isotone I.vector I'.vector i) l zM in
      mul-isotone M'.refusal kM m k z

  pub point-isotone : (P P' : IntervalVector) → Pairwise Refines (IntervalVector-list P) (IntervalVector-list P')
      → NarrowerVector (Pose-enclose_point a s0 s1 D P) (Pose-enclose_point a s0 s1 D' P')
  unfolding Pose-enclose_point
  point-isotone P P' p z =
      let M' = Pose-enclose_matrix a s0 s1 D' in
      let (k, m) = matrix-isotone (point-zero M'.refusal M'.matrix P' z) in
      transform_point-isotone M'.refusal k P P' m p z
