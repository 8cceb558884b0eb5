-- A number met before a stage stands: `slerp-stands` and its like, from `program-stands` of formula.
use mathlib.Core.Path.{◌≡◌, refl, ◌∙◌}
use Prim.Native.Nat.{ℕ}
use mathlib.Core.Bool.{Bool, true, false}
use mathlib.Core.List.{[], ◌∷◌, ◌++◌}
use Rattle.matrix4x4.specs.declared.Matrix4x4.{Matrix4x4}
use Rattle.interval.specs.declared.Interval.{Interval}
use Rattle.interval.specs.Interval.{Interval-point}
use Rattle.formula.specs.Enclose.{enclosure}
use Rattle.formula.proofs.Carries.{program-stands}
use Rattle.pose_steps.specs.declared.PoseConstants.{PoseConstants}
use Rattle.pose_steps.specs.declared.IntervalVector.{IntervalVector}
use Rattle.pose_steps.specs.declared.IntervalQuaternion.{IntervalQuaternion}
use Rattle.pose_steps.specs.declared.IntervalRow.{IntervalRow}
use Rattle.pose_steps.specs.declared.IntervalMatrix.{IntervalMatrix}
use Rattle.pose_steps.specs.Stages.{slerp_near_stage, slerp_far_stage, scale_row_stage, rotation_stage, mul_row_stage, transform_point_stage}
use Rattle.pose_steps.specs.Pose.{is_near}
use Rattle.pose_steps.specs.Enclose.{IntervalVector-list, IntervalQuaternion-list, IntervalQuaternion-point, IntervalRow-list, IntervalMatrix-translation}
use Rattle.pose_steps.specs.Enclose.{IntervalRow-three, IntervalMatrix-list, IntervalMatrix-point, Pose-enclose_slerp_near, Pose-enclose_composition}
use Rattle.pose_steps.specs.Enclose.{Pose-enclose_slerp_far, enclose_slerp_by, Pose-enclose_slerp, Pose-enclose_scale_row, Pose-enclose_scale}
use Rattle.pose_steps.specs.Enclose.{enclose_scale_by, Pose-enclose_rotation, Pose-enclose_mul_row, Pose-enclose_mul, Pose-enclose_transform_point}

-- One stage after another.
then_stands : {m n r : ℕ} → n ≡ m → ((n ≡ 0 → ⊥) → r ≡ n) → (m ≡ 0 → ⊥) → r ≡ m
then_stands e k h = k (rw e h) ∙ e

module _ (m : ℕ) (h : m ≡ 0 → ⊥) where
  pub slerp-stands : (a : PoseConstants) (D : Interval) → (Pose-enclose_slerp m a D).refusal ≡ m
  unfolding Pose-enclose_slerp enclose_slerp_by Pose-enclose_slerp_near Pose-enclose_slerp_far
  slerp-stands a D = go (is_near a)
    where
      go : (b : Bool) → (enclose_slerp_by b m a D).refusal ≡ m
      go true = program-stands (enclosure m
          (IntervalQuaternion-list (IntervalQuaternion-point a.r0) ++ IntervalQuaternion-list (IntervalQuaternion-point a.r1) ++ D ∷ [])) slerp_near_stage h
      go false =
          program-stands
          (enclosure m (IntervalQuaternion-list (IntervalQuaternion-point a.r0) ++ IntervalQuaternion-list (IntervalQuaternion-point a.r1)
          ++ Interval-point a.cos_theta ∷ Interval-point a.theta ∷ D ∷ [])) slerp_far_stage h

  pub scale-row-stands : (R S : IntervalRow) (D : Interval) → (Pose-enclose_scale_row m R S D).refusal ≡ m
  unfolding Pose-enclose_scale_row
  scale-row-stands R S D = program-stands (enclosure m (IntervalRow-three R ++ IntervalRow-three S ++ D ∷ [])) scale_row_stage h

  pub rotation-stands : (Q : IntervalQuaternion) → (Pose-enclose_rotation m Q).refusal ≡ m
  unfolding Pose-enclose_rotation
  rotation-stands Q = program-stands (enclosure m (IntervalQuaternion-list Q)) rotation_stage h

  pub mul-row-stands : (R : IntervalRow) (M : IntervalMatrix) → (Pose-enclose_mul_row m R M).refusal ≡ m
  unfolding Pose-enclose_mul_row
  mul-row-stands R M = program-stands (enclosure m (IntervalRow-list R ++ IntervalMatrix-list M)) mul_row_stage h

  pub point-stands : (M : IntervalMatrix) (P : IntervalVector) → (Pose-enclose_transform_point m M P).refusal ≡ m
  unfolding Pose-enclose_transform_point
  point-stands M P = program-stands (enclosure m (IntervalMatrix-list M ++ IntervalVector-list P)) transform_point_stage h

-- ---- three rows in turn, and the stages in sequence
module _ (m : ℕ) (h : m ≡ 0 → ⊥) where
  pub scale-stands : (s0 s1 : IntervalMatrix) (D : Interval) → (Pose-enclose_scale m s0 s1 D).refusal ≡ m
  unfolding Pose-enclose_scale
  scale-stands s0 s1 D =
      let p = Pose-enclose_scale_row m s0.r0 s1.r0 D in
      let q = Pose-enclose_scale_row p.refusal s0.r1 s1.r1 D in
      let e : p.refusal ≡ m = scale-row-stands m h s0.r0 s1.r0 D in
      let f : q.refusal ≡ m = then_stands e (λ k. scale-row-stands p.refusal k s0.r1 s1.r1 D) h in
      then_stands f (λ k. scale-row-stands q.refusal k s0.r2 s1.r2 D) h

  pub scale-by-stands : (k : Bool) (s0 s1 : Matrix4x4) (D : Interval) → (enclose_scale_by k m s0 s1 D).refusal ≡ m
  unfolding enclose_scale_by
  scale-by-stands true s0 s1 D = refl
  scale-by-stands false s0 s1 D = scale-stands (IntervalMatrix-point s0) (IntervalMatrix-point s1) D

  pub mul-stands : (A B : IntervalMatrix) → (Pose-enclose_mul m A B).refusal ≡ m
  unfolding Pose-enclose_mul
  mul-stands A B =
      let p = Pose-enclose_mul_row m A.r0 B in
      let q = Pose-enclose_mul_row p.refusal A.r1 B in
      let e : p.refusal ≡ m = mul-row-stands m h A.r0 B in
      let f : q.refusal ≡ m = then_stands e (λ k. mul-row-stands p.refusal k A.r1 B) h in
      then_stands f (λ k. mul-row-stands q.refusal k A.r2 B) h

module _ (m : ℕ) (h : m ≡ 0 → ⊥) where
  pub composition-stands : (rigid : Bool) (V : IntervalVector) (Q : IntervalQuaternion) (s0 s1 : Matrix4x4) (D : Interval)
      → (Pose-enclose_composition rigid V (record { quaternion = Q; refusal = m }) s0 s1 D).refusal ≡ m
  composition-stands rigid V Q s0 s1 D =
      let S = enclose_scale_by rigid m s0 s1 D in
      let R = Pose-enclose_rotation S.refusal Q in
      let F = Pose-enclose_mul R.refusal (IntervalMatrix-translation V) R.matrix in
      let e : S.refusal ≡ m = scale-by-stands m h rigid s0 s1 D in
      let f : R.refusal ≡ m = then_stands e (λ k. rotation-stands S.refusal k Q) h in
      let g : F.refusal ≡ m = then_stands f (λ k. mul-stands R.refusal k (IntervalMatrix-translation V) R.matrix) h in
      then_stands g (λ k. mul-stands F.refusal k F.matrix S.matrix) h
