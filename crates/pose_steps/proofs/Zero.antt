-- A stage that was not refused had not been refused before: `slerp-zero` and its like, from `program-zero` of formula.
use mathlib.Core.Path.{◌≡◌}
use Prim.Native.Nat.{ℕ}
use mathlib.Core.Bool.{Bool, true, false}
use mathlib.Core.List.{[], ◌∷◌, ◌++◌}
use Rattle.matrix4x4.specs.declared.Matrix4x4.{Matrix4x4}
use Rattle.interval.specs.declared.Interval.{Interval}
use Rattle.interval.specs.Interval.{Interval-point}
use Rattle.formula.specs.Enclose.{enclosure}
use Rattle.formula.proofs.Carries.{program-zero}
use Rattle.pose_steps.specs.declared.PoseConstants.{PoseConstants}
use Rattle.pose_steps.specs.declared.IntervalVector.{IntervalVector}
use Rattle.pose_steps.specs.declared.IntervalQuaternion.{IntervalQuaternion}
use Rattle.pose_steps.specs.declared.IntervalRow.{IntervalRow}
use Rattle.pose_steps.specs.declared.IntervalMatrix.{IntervalMatrix}
use Rattle.pose_steps.specs.Stages.{slerp_near_stage, slerp_far_stage, scale_row_stage, rotation_stage, mul_row_stage, transform_point_stage}
use Rattle.pose_steps.specs.Pose.{is_near}
use Rattle.pose_steps.specs.Enclose.{IntervalVector-list, IntervalQuaternion-list, IntervalQuaternion-point, IntervalRow-list}
use Rattle.pose_steps.specs.Enclose.{IntervalRow-three, IntervalMatrix-list, IntervalMatrix-point, Pose-enclose_slerp_near}
use Rattle.pose_steps.specs.Enclose.{Pose-enclose_slerp_far, enclose_slerp_by, Pose-enclose_slerp, Pose-enclose_scale_row, Pose-enclose_scale}
use Rattle.pose_steps.specs.Enclose.{enclose_scale_by, Pose-enclose_rotation, Pose-enclose_mul_row, Pose-enclose_mul, Pose-enclose_transform_point}

module _ (m : ℕ) where
  pub slerp-zero : (a : PoseConstants) (D : Interval) → (Pose-enclose_slerp m a D).refusal ≡ 0 → m ≡ 0
  unfolding Pose-enclose_slerp enclose_slerp_by Pose-enclose_slerp_near Pose-enclose_slerp_far
  slerp-zero a D = go (is_near a)
    where
      go : (b : Bool) → (enclose_slerp_by b m a D).refusal ≡ 0 → m ≡ 0
      go true z = program-zero (enclosure m
          (IntervalQuaternion-list (IntervalQuaternion-point a.r0) ++ IntervalQuaternion-list (IntervalQuaternion-point a.r1) ++ D ∷ [])) slerp_near_stage z
      go false z =
          program-zero
          (enclosure m (IntervalQuaternion-list (IntervalQuaternion-point a.r0) ++ IntervalQuaternion-list (IntervalQuaternion-point a.r1)
          ++ Interval-point a.cos_theta ∷ Interval-point a.theta ∷ D ∷ [])) slerp_far_stage z

  pub scale-row-zero : (R S : IntervalRow) (D : Interval) → (Pose-enclose_scale_row m R S D).refusal ≡ 0 → m ≡ 0
  unfolding Pose-enclose_scale_row
  scale-row-zero R S D z = program-zero (enclosure m (IntervalRow-three R ++ IntervalRow-three S ++ D ∷ [])) scale_row_stage z

  pub rotation-zero : (Q : IntervalQuaternion) → (Pose-enclose_rotation m Q).refusal ≡ 0 → m ≡ 0
  unfolding Pose-enclose_rotation
  rotation-zero Q z = program-zero (enclosure m (IntervalQuaternion-list Q)) rotation_stage z

  pub mul-row-zero : (R : IntervalRow) (M : IntervalMatrix) → (Pose-enclose_mul_row m R M).refusal ≡ 0 → m ≡ 0
  unfolding Pose-enclose_mul_row
  mul-row-zero R M z = program-zero (enclosure m (IntervalRow-list R ++ IntervalMatrix-list M)) mul_row_stage z

  pub point-zero : (M : IntervalMatrix) (P : IntervalVector) → (Pose-enclose_transform_point m M P).refusal ≡ 0 → m ≡ 0
  unfolding Pose-enclose_transform_point
  point-zero M P z = program-zero (enclosure m (IntervalMatrix-list M ++ IntervalVector-list P)) transform_point_stage z

-- ---- three rows in turn
pub scale-zero : (m : ℕ) (s0 s1 : IntervalMatrix) (D : Interval) → (Pose-enclose_scale m s0 s1 D).refusal ≡ 0 → m ≡ 0
unfolding Pose-enclose_scale
scale-zero m s0 s1 D z =
    let p = Pose-enclose_scale_row m s0.r0 s1.r0 D in
    let q = Pose-enclose_scale_row p.refusal s0.r1 s1.r1 D in
    scale-row-zero m s0.r0 s1.r0 D (scale-row-zero p.refusal s0.r1 s1.r1 D (scale-row-zero q.refusal s0.r2 s1.r2 D z))

pub scale-by-zero : (k : Bool) (m : ℕ) (s0 s1 : Matrix4x4) (D : Interval) → (enclose_scale_by k m s0 s1 D).refusal ≡ 0 → m ≡ 0
unfolding enclose_scale_by
scale-by-zero true m s0 s1 D z = z
scale-by-zero false m s0 s1 D z = scale-zero m (IntervalMatrix-point s0) (IntervalMatrix-point s1) D z

pub mul-zero : (m : ℕ) (A B : IntervalMatrix) → (Pose-enclose_mul m A B).refusal ≡ 0 → m ≡ 0
unfolding Pose-enclose_mul
mul-zero m A B z =
    let p = Pose-enclose_mul_row m A.r0 B in
    let q = Pose-enclose_mul_row p.refusal A.r1 B in
    mul-row-zero m A.r0 B (mul-row-zero p.refusal A.r1 B (mul-row-zero q.refusal A.r2 B z))
