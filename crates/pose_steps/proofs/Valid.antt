-- Every stage names only what is bound and has finite constants, and the sine and the cosine of far slerp are asked of angles:
-- `translation-valid` and its like.
use Prim.Native.Nat.{ℕ}
use mathlib.Core.Bool.{true, ◌&&◌}
use mathlib.Core.List.{[], ◌∷◌, ◌++◌}
use lib.Dec.{T}
use lib.Ieee.{of_bits}
use lib.Ieee.Fits.{and_i}
use Rattle.interval.specs.declared.Interval.{Interval}
use Rattle.interval.specs.Enclosure.{are_angles, Judged-judge, Interval-mul_enclosure, Judged-mul_enclosure}
use Rattle.formula.specs.Enclose.{enclosure, Expr-enclose, Program-valid}
use Rattle.pose_steps.specs.declared.IntervalVector.{IntervalVector}
use Rattle.pose_steps.specs.declared.IntervalQuaternion.{IntervalQuaternion}
use Rattle.pose_steps.specs.declared.IntervalRow.{IntervalRow}
use Rattle.pose_steps.specs.declared.IntervalMatrix.{IntervalMatrix}
use Rattle.pose_steps.specs.Stages.{translation_stage, slerp_near_stage, slerp_far_stage, scale_row_stage, rotation_stage, mul_row_stage, transform_point_stage}
use Rattle.pose_steps.specs.Enclose.{IntervalVector-list, IntervalQuaternion-list, IntervalRow-list, IntervalRow-three, IntervalMatrix-list}

module _ (m : ℕ) (D : Interval) where
  pub translation-valid : (T0 T1 : IntervalVector)
      → T (Program-valid (enclosure m (IntervalVector-list T0 ++ IntervalVector-list T1 ++ D ∷ [])) translation_stage)
  unfolding of_bits
  translation-valid T0 T1 = tt

  pub near-valid : (P Q : IntervalQuaternion)
      → T (Program-valid (enclosure m (IntervalQuaternion-list P ++ IntervalQuaternion-list Q ++ D ∷ [])) slerp_near_stage)
  unfolding of_bits
  near-valid P Q = tt

  pub far-valid : (P Q : IntervalQuaternion) (C Θ : Interval) → T (are_angles (Interval-mul_enclosure Θ D))
      → T (Program-valid (enclosure m (IntervalQuaternion-list P ++ IntervalQuaternion-list Q ++ C ∷ Θ ∷ D ∷ [])) slerp_far_stage)
  unfolding Expr-enclose Judged-mul_enclosure Judged-judge
  far-valid P Q C Θ h =
      let b = are_angles (Interval-mul_enclosure Θ D) in
      and_i b (b && true) h (and_i b true h tt)

  pub scale-valid : (R S : IntervalRow) → T (Program-valid (enclosure m (IntervalRow-three R ++ IntervalRow-three S ++ D ∷ [])) scale_row_stage)
  unfolding of_bits
  scale-valid R S = tt

pub rotation-valid : (m : ℕ) (Q : IntervalQuaternion) → T (Program-valid (enclosure m (IntervalQuaternion-list Q)) rotation_stage)
unfolding of_bits
rotation-valid m Q = tt

pub mul-valid : (m : ℕ) (R : IntervalRow) (M : IntervalMatrix) → T (Program-valid (enclosure m (IntervalRow-list R ++ IntervalMatrix-list M)) mul_row_stage)
unfolding of_bits
mul-valid m R M = tt

pub point-valid : (m : ℕ) (M : IntervalMatrix) (P : IntervalVector)
    → T (Program-valid (enclosure m (IntervalMatrix-list M ++ IntervalVector-list P)) transform_point_stage)
point-valid m M P = tt
