-- The stages of a pose in intervals, stopping at the first refusal: `composition-steps`.
use Rattle.std.proofs.Common.{◌≡◌, ◌≢◌, ℕ, refl, ◌∙◌, Bool}
use Rattle.interval.specs.declared.Interval.{Interval}
use Rattle.interval.specs.refusal.Outcome.{and_then}
use Rattle.pose_steps.proofs.refusal.Outcome.{chain}
use Rattle.matrix4x4.specs.declared.Matrix4x4.{Matrix4x4}
use Rattle.pose_steps.specs.declared.IntervalVector.{IntervalVector}
use Rattle.pose_steps.specs.declared.IntervalQuaternion.{IntervalQuaternion}
use Rattle.pose_steps.specs.declared.IntervalMatrix.{IntervalMatrix}
use Rattle.pose_steps.specs.Judged.{JudgedMatrix, JudgedMatrix-outcome}
use Rattle.pose_steps.specs.Enclose.{IntervalMatrix-translation, enclose_scale_by, Pose-enclose_rotation, Pose-enclose_mul, Pose-enclose_composition}
use Rattle.pose_steps.proofs.Stands.{rotation-stands, mul-stands}

module _ (V : IntervalVector) (Q : IntervalQuaternion) where
  abbrev first : ℕ → IntervalMatrix → JudgedMatrix
  first m R = Pose-enclose_mul m (IntervalMatrix-translation V) R

  last : (F : JudgedMatrix) (S : IntervalMatrix)
      → JudgedMatrix-outcome (Pose-enclose_mul F.refusal F.matrix S)
      ≡ and_then (JudgedMatrix-outcome F) (λ (F : IntervalMatrix). JudgedMatrix-outcome (Pose-enclose_mul 0 F S))
  last F S =
      let P = Pose-enclose_mul F.refusal F.matrix S in
      chain F.matrix F.refusal (JudgedMatrix-outcome F) (λ (F : IntervalMatrix). JudgedMatrix-outcome (Pose-enclose_mul 0 F S)) P.matrix P.refusal refl
      (λ e. rw e) (λ h. mul-stands F.refusal h F.matrix S)

  products : (R : JudgedMatrix) (S : IntervalMatrix)
      → JudgedMatrix-outcome (Pose-enclose_mul (first R.refusal R.matrix).refusal (first R.refusal R.matrix).matrix S)
      ≡ and_then (JudgedMatrix-outcome R) (λ (R : IntervalMatrix).
      and_then (JudgedMatrix-outcome (first 0 R)) (λ (F : IntervalMatrix). JudgedMatrix-outcome (Pose-enclose_mul 0 F S)))
  products R S =
      let F = first R.refusal R.matrix in
      let P = Pose-enclose_mul F.refusal F.matrix S in
      chain R.matrix R.refusal (JudgedMatrix-outcome R)
      (λ (R : IntervalMatrix). and_then (JudgedMatrix-outcome (first 0 R)) (λ (F : IntervalMatrix). JudgedMatrix-outcome (Pose-enclose_mul 0 F S)))
      P.matrix P.refusal refl (λ e. rw e (last (first 0 R.matrix) S))
      (λ h.
      let f : F.refusal ≡ R.refusal = mul-stands R.refusal h (IntervalMatrix-translation V) R.matrix in
      let k : F.refusal ≢ 0 = rw f h in
      mul-stands F.refusal k F.matrix S ∙ f)

  pub composition-steps : (rigid : Bool) (s0 s1 : Matrix4x4) (D : Interval)
      → JudgedMatrix-outcome (Pose-enclose_composition rigid V (record { quaternion = Q; refusal = 0 }) s0 s1 D)
      ≡ and_then (JudgedMatrix-outcome (enclose_scale_by rigid 0 s0 s1 D)) (λ (S : IntervalMatrix).
      and_then (JudgedMatrix-outcome (Pose-enclose_rotation 0 Q)) (λ (R : IntervalMatrix).
      and_then (JudgedMatrix-outcome (first 0 R)) (λ (F : IntervalMatrix). JudgedMatrix-outcome (Pose-enclose_mul 0 F S))))
  composition-steps rigid s0 s1 D = go (enclose_scale_by rigid 0 s0 s1 D)
    where
      go : (S : JudgedMatrix)
          → JudgedMatrix-outcome (Pose-enclose_mul
          (first (Pose-enclose_rotation S.refusal Q).refusal (Pose-enclose_rotation S.refusal Q).matrix).refusal
          (first (Pose-enclose_rotation S.refusal Q).refusal (Pose-enclose_rotation S.refusal Q).matrix).matrix S.matrix)
          ≡ and_then (JudgedMatrix-outcome S) (λ (S : IntervalMatrix).
          and_then (JudgedMatrix-outcome (Pose-enclose_rotation 0 Q)) (λ (R : IntervalMatrix).
          and_then (JudgedMatrix-outcome (first 0 R)) (λ (F : IntervalMatrix). JudgedMatrix-outcome (Pose-enclose_mul 0 F S))))
      go S =
          let R = Pose-enclose_rotation S.refusal Q in
          let F = first R.refusal R.matrix in
          let P = Pose-enclose_mul F.refusal F.matrix S.matrix in
          chain S.matrix S.refusal (JudgedMatrix-outcome S)
          (λ (S : IntervalMatrix). and_then (JudgedMatrix-outcome (Pose-enclose_rotation 0 Q)) (λ (R : IntervalMatrix).
          and_then (JudgedMatrix-outcome (first 0 R)) (λ (F : IntervalMatrix). JudgedMatrix-outcome (Pose-enclose_mul 0 F S))))
          P.matrix P.refusal refl (λ e. rw e (products (Pose-enclose_rotation 0 Q) S.matrix))
          (λ h.
          let r : R.refusal ≡ S.refusal = rotation-stands S.refusal h Q in
          let i : R.refusal ≢ 0 = rw r h in
          let f : F.refusal ≡ R.refusal = mul-stands R.refusal i (IntervalMatrix-translation V) R.matrix in
          let k : F.refusal ≢ 0 = rw f i in
          mul-stands F.refusal k F.matrix S.matrix ∙ f ∙ r)
