-- A stage as code works it, stopping at the first refusal: `vector-stage` and its like, from `program-stops` of formula. What calls a stage, or a part of
-- several steps: `scale-steps` and its like.
use Rattle.std.proofs.Common.{◌≡◌, ℕ, refl, ap, ◌∙◌, List, [], ◌∷◌, ◌++◌, Result, Ok}
use lib.Ieee.{binary32, of_bits}
use Rattle.interval.specs.declared.Interval.{Interval}
use Rattle.interval.specs.declared.IntervalSinCos.{IntervalSinCos}
use Rattle.interval.specs.Interval.{Interval-point}
use Rattle.interval.specs.Judged.{Judged-outcome}
use Rattle.interval.specs.Enclosure.{Judged-mul_enclosure, Judged-div_enclosure, Judged-sqrt_enclosure, Judged-sin_enclosure, Judged-cos_enclosure}
use Rattle.interval.specs.refusal.Outcome.{outcome, and_then}
use Rattle.pose_steps.proofs.refusal.Outcome.{chain, outcome-value, and_then-assoc, and_then-same, and_then-step}
use Rattle.pose_steps.specs.formula.Program.{Program}
use Rattle.pose_steps.specs.formula.Enclose.{enclosure, Program-enclose}
use Rattle.pose_steps.specs.formula.Stop.{Expr-enclose_or_stop, Program-enclose_or_stop}
use Rattle.pose_steps.proofs.formula.Stop.{program-stops}
use Rattle.pose_steps.specs.declared.IntervalQuaternion.{IntervalQuaternion}
use Rattle.pose_steps.specs.declared.IntervalRow.{IntervalRow}
use Rattle.pose_steps.specs.declared.IntervalMatrix.{IntervalMatrix}
use Rattle.pose_steps.specs.Judged.{JudgedRow, JudgedVector-outcome, JudgedQuaternion-outcome, JudgedRow-outcome, JudgedMatrix-outcome}
use Rattle.pose_steps.specs.Stages.{quaternion, dot, slerp_far_stage, rotation_stage}
use Rattle.pose_steps.specs.Enclose.{JudgedVector-of, JudgedQuaternion-of, JudgedRow-of, JudgedMatrix-of, IntervalQuaternion-list, JudgedMatrix-rows}
use Rattle.pose_steps.specs.Enclose.{Pose-enclose_slerp_far, Pose-enclose_scale_row, Pose-enclose_scale, Pose-enclose_rotation, Pose-enclose_mul_row, Pose-enclose_mul}
use Rattle.pose_steps.proofs.Stands.{scale-row-stands, mul-row-stands}
use Rattle.pose_judged.specs.declared.Products.{Products}
use Rattle.pose_judged.specs.means.Steps.{weighted_sum, sub_product, twice_sum, twice_difference, one_less_twice_sum, normalized, mul_parts}

module _ (p : Program) (σ : List Interval) where
  stage : {A : Type 0} (f : List Interval → A)
      → outcome (f (Program-enclose (enclosure 0 σ) p).intervals) (Program-enclose (enclosure 0 σ) p).refusal
      ≡ and_then (Program-enclose_or_stop σ p) (λ (l : List Interval). Ok (f l))
  stage {A} f =
      let c = Program-enclose (enclosure 0 σ) p in
      outcome-value f c.intervals c.refusal ∙ ap (λ (r : Result (List Interval) ℕ). and_then r (λ (l : List Interval). Ok (f l))) (program-stops p σ)

  pub vector-stage : JudgedVector-outcome (JudgedVector-of (Program-enclose (enclosure 0 σ) p))
      ≡ and_then (Program-enclose_or_stop σ p) (λ (l : List Interval). Ok (JudgedVector-of (enclosure 0 l)).vector)
  vector-stage = stage (λ (l : List Interval). (JudgedVector-of (enclosure 0 l)).vector)

  pub quaternion-stage : JudgedQuaternion-outcome (JudgedQuaternion-of (Program-enclose (enclosure 0 σ) p))
      ≡ and_then (Program-enclose_or_stop σ p) (λ (l : List Interval). Ok (JudgedQuaternion-of (enclosure 0 l)).quaternion)
  quaternion-stage = stage (λ (l : List Interval). (JudgedQuaternion-of (enclosure 0 l)).quaternion)

  pub row-stage : JudgedRow-outcome (JudgedRow-of (Program-enclose (enclosure 0 σ) p))
      ≡ and_then (Program-enclose_or_stop σ p) (λ (l : List Interval). Ok (JudgedRow-of (enclosure 0 l)).row)
  row-stage = stage (λ (l : List Interval). (JudgedRow-of (enclosure 0 l)).row)

  pub matrix-stage : JudgedMatrix-outcome (JudgedMatrix-of (Program-enclose (enclosure 0 σ) p))
      ≡ and_then (Program-enclose_or_stop σ p) (λ (l : List Interval). Ok (JudgedMatrix-of (enclosure 0 l)).matrix)
  matrix-stage = stage (λ (l : List Interval). (JudgedMatrix-of (enclosure 0 l)).matrix)

-- ---- three rows in turn
rows : (p : JudgedRow) (q r : ℕ → JudgedRow) → ((m : ℕ) → (m ≡ 0 → ⊥) → (q m).refusal ≡ m) → ((m : ℕ) → (m ≡ 0 → ⊥) → (r m).refusal ≡ m)
    → JudgedMatrix-outcome (JudgedMatrix-rows p (q p.refusal) (r (q p.refusal).refusal))
    ≡ and_then (JudgedRow-outcome p) (λ (x : IntervalRow).
    and_then (JudgedRow-outcome (q 0)) (λ (y : IntervalRow).
    and_then (JudgedRow-outcome (r 0)) (λ (z : IntervalRow). Ok (record { r0 = x; r1 = y; r2 = z }))))
rows p q r f g =
    let second : (x : IntervalRow) → outcome (matrix x (q 0).row (r (q 0).refusal).row) (r (q 0).refusal).refusal
    ≡ and_then (JudgedRow-outcome (q 0)) (λ (y : IntervalRow). and_then (JudgedRow-outcome (r 0)) (λ (z : IntervalRow). Ok (matrix x y z))) =
    λ x. chain (q 0).row (q 0).refusal (JudgedRow-outcome (q 0))
    (λ (y : IntervalRow). and_then (JudgedRow-outcome (r 0)) (λ (z : IntervalRow). Ok (matrix x y z)))
    (matrix x (q 0).row (r (q 0).refusal).row) (r (q 0).refusal).refusal refl
    (λ e. rw e (outcome-value (matrix x (q 0).row) (r 0).row (r 0).refusal)) (g (q 0).refusal) in
    chain p.row p.refusal (JudgedRow-outcome p)
    (λ (x : IntervalRow). and_then (JudgedRow-outcome (q 0)) (λ (y : IntervalRow). and_then (JudgedRow-outcome (r 0)) (λ (z : IntervalRow). Ok (matrix x y z))))
    (matrix p.row (q p.refusal).row (r (q p.refusal).refusal).row) (r (q p.refusal).refusal).refusal refl
    (λ e. rw e (second p.row))
    (λ h. let e : (q p.refusal).refusal ≡ p.refusal = f p.refusal h in g (q p.refusal).refusal (rw e h) ∙ e)
  where
    matrix : IntervalRow → IntervalRow → IntervalRow → IntervalMatrix
    matrix x y z = record { r0 = x; r1 = y; r2 = z }

module _ (s0 s1 : IntervalMatrix) (D : Interval) where
  pub scale-steps : JudgedMatrix-outcome (Pose-enclose_scale 0 s0 s1 D)
      ≡ and_then (JudgedRow-outcome (Pose-enclose_scale_row 0 s0.r0 s1.r0 D)) (λ (p : IntervalRow).
      and_then (JudgedRow-outcome (Pose-enclose_scale_row 0 s0.r1 s1.r1 D)) (λ (q : IntervalRow).
      and_then (JudgedRow-outcome (Pose-enclose_scale_row 0 s0.r2 s1.r2 D)) (λ (r : IntervalRow). Ok (record { r0 = p; r1 = q; r2 = r }))))
  unfolding Pose-enclose_scale
  scale-steps = rows (Pose-enclose_scale_row 0 s0.r0 s1.r0 D) (λ m. Pose-enclose_scale_row m s0.r1 s1.r1 D) (λ m. Pose-enclose_scale_row m s0.r2 s1.r2 D)
      (λ m h. scale-row-stands m h s0.r1 s1.r1 D) (λ m h. scale-row-stands m h s0.r2 s1.r2 D)

pub mul-steps : (A B : IntervalMatrix) → JudgedMatrix-outcome (Pose-enclose_mul 0 A B)
    ≡ and_then (JudgedRow-outcome (Pose-enclose_mul_row 0 A.r0 B)) (λ (p : IntervalRow).
    and_then (JudgedRow-outcome (Pose-enclose_mul_row 0 A.r1 B)) (λ (q : IntervalRow).
    and_then (JudgedRow-outcome (Pose-enclose_mul_row 0 A.r2 B)) (λ (r : IntervalRow). Ok (record { r0 = p; r1 = q; r2 = r }))))
unfolding Pose-enclose_mul
mul-steps A B = rows (Pose-enclose_mul_row 0 A.r0 B) (λ m. Pose-enclose_mul_row m A.r1 B) (λ m. Pose-enclose_mul_row m A.r2 B)
    (λ m h. mul-row-stands m h A.r1 B) (λ m h. mul-row-stands m h A.r2 B)

-- ---- stages that call a part of several steps
-- A quaternion divided by its length, and what is done with it.
normalized-then : {B : Type 0} (q : IntervalQuaternion) (k : Interval → Interval → Interval → Interval → Result (List Interval) ℕ) (f : List Interval → Result B ℕ)
    → and_then (and_then (and_then
    (Expr-enclose_or_stop (IntervalQuaternion-list q) (dot (quaternion 0) (quaternion 0))) (λ (d : Interval). Judged-outcome (Judged-sqrt_enclosure 0 d))) (λ (n : Interval).
    and_then (Judged-outcome (Judged-div_enclosure 0 q.x n)) (λ (x : Interval).
    and_then (Judged-outcome (Judged-div_enclosure 0 q.y n)) (λ (y : Interval).
    and_then (Judged-outcome (Judged-div_enclosure 0 q.z n)) (λ (z : Interval).
    and_then (Judged-outcome (Judged-div_enclosure 0 q.w n)) (λ (w : Interval). k x y z w)))))) f
    ≡ and_then (normalized q) (λ (p : IntervalQuaternion). and_then (k p.x p.y p.z p.w) f)
normalized-then q k f = simp and_then-assoc

pub far-steps : (q1 q2 : IntervalQuaternion) (cosθ θ t : Interval) → JudgedQuaternion-outcome (Pose-enclose_slerp_far 0 q1 q2 cosθ θ t)
    ≡ and_then (Judged-outcome (Judged-mul_enclosure 0 θ t)) (λ (a : Interval).
    and_then (sub_product q2.x q1.x cosθ) (λ (x : Interval).
    and_then (sub_product q2.y q1.y cosθ) (λ (y : Interval).
    and_then (sub_product q2.z q1.z cosθ) (λ (z : Interval).
    and_then (sub_product q2.w q1.w cosθ) (λ (w : Interval).
    and_then (normalized (record { x = x; y = y; z = z; w = w })) (λ (p : IntervalQuaternion).
    and_then (and_then (Judged-outcome (Judged-cos_enclosure 0 a)) (λ (c : Interval).
    and_then (Judged-outcome (Judged-sin_enclosure 0 a)) (λ (s : Interval). Ok (record { sin = s; cos = c })))) (λ (at : IntervalSinCos).
    and_then (weighted_sum q1.x at.cos p.x at.sin) (λ (x : Interval).
    and_then (weighted_sum q1.y at.cos p.y at.sin) (λ (y : Interval).
    and_then (weighted_sum q1.z at.cos p.z at.sin) (λ (z : Interval).
    and_then (weighted_sum q1.w at.cos p.w at.sin) (λ (w : Interval). Ok (record { x = x; y = y; z = z; w = w }))))))))))))
unfolding Pose-enclose_slerp_far
far-steps q1 q2 cosθ θ t =
    quaternion-stage slerp_far_stage (IntervalQuaternion-list q1 ++ IntervalQuaternion-list q2 ++ cosθ ∷ θ ∷ t ∷ [])
    ∙ and_then-step (Judged-outcome (Judged-mul_enclosure 0 θ t)) _ _ _ (λ a.
    and_then-step (sub_product q2.x q1.x cosθ) _ _ _ (λ x.
    and_then-step (sub_product q2.y q1.y cosθ) _ _ _ (λ y.
    and_then-step (sub_product q2.z q1.z cosθ) _ _ _ (λ z.
    and_then-step (sub_product q2.w q1.w cosθ) _ _ _ (λ w.
    normalized-then (record { x = x; y = y; z = z; w = w })
    (λ nx ny nz nw. and_then (Judged-outcome (Judged-cos_enclosure 0 a)) (λ (c : Interval).
    and_then (Judged-outcome (Judged-sin_enclosure 0 a)) (λ (s : Interval). mixed (record { x = nx; y = ny; z = nz; w = nw }) c s)))
    (λ (l : List Interval). Ok (JudgedQuaternion-of (enclosure 0 l)).quaternion)
    ∙ and_then-same (normalized (record { x = x; y = y; z = z; w = w })) _ _ (λ p. arc a p))))))
  where
    mixed : IntervalQuaternion → Interval → Interval → Result (List Interval) ℕ
    mixed p c s =
        and_then (weighted_sum q1.x c p.x s) (λ (X : Interval). and_then (
        and_then (weighted_sum q1.y c p.y s) (λ (X : Interval). and_then (
        and_then (weighted_sum q1.z c p.z s) (λ (X : Interval). and_then (
        and_then (weighted_sum q1.w c p.w s) (λ (X : Interval). Ok (X ∷ [])))
        (λ (Xs : List Interval). Ok (X ∷ Xs))))
        (λ (Xs : List Interval). Ok (X ∷ Xs))))
        (λ (Xs : List Interval). Ok (X ∷ Xs)))

    arc : (a : Interval) (p : IntervalQuaternion)
        → and_then (and_then (Judged-outcome (Judged-cos_enclosure 0 a)) (λ (c : Interval).
        and_then (Judged-outcome (Judged-sin_enclosure 0 a)) (λ (s : Interval). mixed p c s)))
        (λ (l : List Interval). Ok (JudgedQuaternion-of (enclosure 0 l)).quaternion)
        ≡ and_then (and_then (Judged-outcome (Judged-cos_enclosure 0 a)) (λ (c : Interval).
        and_then (Judged-outcome (Judged-sin_enclosure 0 a)) (λ (s : Interval). Ok (record { sin = s; cos = c })))) (λ (at : IntervalSinCos).
        and_then (weighted_sum q1.x at.cos p.x at.sin) (λ (x : Interval).
        and_then (weighted_sum q1.y at.cos p.y at.sin) (λ (y : Interval).
        and_then (weighted_sum q1.z at.cos p.z at.sin) (λ (z : Interval).
        and_then (weighted_sum q1.w at.cos p.w at.sin) (λ (w : Interval). Ok (record { x = x; y = y; z = z; w = w }))))))
    arc a p = simp and_then-assoc

pub rotation-steps : (q : IntervalQuaternion) → JudgedMatrix-outcome (Pose-enclose_rotation 0 q)
    ≡ and_then (mul_parts q) (λ (p : Products).
    and_then (one_less_twice_sum p.yy p.zz) (λ (m00 : Interval).
    and_then (twice_sum p.xy p.wz) (λ (m01 : Interval).
    and_then (twice_difference p.xz p.wy) (λ (m02 : Interval).
    and_then (twice_difference p.xy p.wz) (λ (m10 : Interval).
    and_then (one_less_twice_sum p.xx p.zz) (λ (m11 : Interval).
    and_then (twice_sum p.yz p.wx) (λ (m12 : Interval).
    and_then (twice_sum p.xz p.wy) (λ (m20 : Interval).
    and_then (twice_difference p.yz p.wx) (λ (m21 : Interval).
    and_then (one_less_twice_sum p.xx p.yy) (λ (m22 : Interval). Ok (record {
      r0 = record { c0 = m00; c1 = m10; c2 = m20; c3 = Interval-point (of_bits binary32 0) };
      r1 = record { c0 = m01; c1 = m11; c2 = m21; c3 = Interval-point (of_bits binary32 0) };
      r2 = record { c0 = m02; c1 = m12; c2 = m22; c3 = Interval-point (of_bits binary32 0) };
    })))))))))))
unfolding Pose-enclose_rotation
rotation-steps q = matrix-stage rotation_stage (IntervalQuaternion-list q) ∙ simp and_then-assoc
