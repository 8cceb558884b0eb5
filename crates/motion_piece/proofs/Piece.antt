-- A piece of a cover is its poses with their pad, taken over the box: `piece-steps`, `piece-composition` over an interval of dt, `stored-composition` of a stored transform.
-- The steps of a pose stop at the first refusal: `matrix-steps`.
use Rattle.std.proofs.Common.{◌≡◌, ◌≢◌, refl, sym, ap, ◌∙◌, ℕ, zero, suc, arith, Result, Ok, Err}
use borrow.Author.Tests.{ne_eqb}
use lib.Ieee.{Float}
use Rattle.bounds3.specs.declared.Bounds3f.{Bounds3f}
use Rattle.matrix4x4.specs.declared.Matrix4x4.{Matrix4x4}
use Rattle.transform.specs.declared.Transform.{Transform}
use Rattle.transform.specs.declared.BoundsAnswer.{BoundsAnswer}
use Rattle.transform.specs.declared.BoundsAnswer.TheVariants.{Refused}
use Rattle.interval.specs.declared.Interval.{Interval}
use Rattle.interval.specs.refusal.declared.Refusal.{Refusal}
use Rattle.interval.specs.refusal.Number.{Refusal-number, numbered}
use Rattle.interval.specs.refusal.Outcome.{outcome, and_then}
use Rattle.interval.specs.Judged.{Judged-outcome, Judged-from}
use Rattle.pose_steps.specs.declared.PoseConstants.{PoseConstants}
use Rattle.pose_steps.specs.declared.IntervalVector.{IntervalVector}
use Rattle.pose_steps.specs.declared.IntervalQuaternion.{IntervalQuaternion}
use Rattle.pose_steps.specs.declared.IntervalMatrix.{IntervalMatrix}
use Rattle.pose_steps.specs.Judged.{JudgedVector, JudgedMatrix, JudgedVector-outcome, JudgedQuaternion-outcome, JudgedMatrix-outcome}
use Rattle.pose_steps.specs.Enclose.{IntervalVector-point, IntervalMatrix-point, Bounds3f-intervals, Pose-enclose_translation, Pose-enclose_slerp}
use Rattle.pose_steps.specs.Enclose.{Pose-enclose_composition, Pose-enclose_matrix, Pose-enclose_transform_point, Pose-enclose_point}
use Rattle.motion_cover.proofs.refusal.Number.{number-nonzero}
use Rattle.motion_cover.proofs.refusal.Outcome.{chain}
use Rattle.motion_cover.proofs.pose_steps.Stands.{slerp-stands, composition-stands, point-stands}
use Rattle.motion_cover.specs.animated_transform.declared.AnimatedTransform.{AnimatedTransform}
use Rattle.motion_cover.specs.Cover.{BoundsAnswer-from_enclosure, Transform-enclose_bounds, Transform-enclose_padded, AnimatedTransform-enclose_bounds}
use Rattle.motion_pad.specs.Pad.{Pad-enclose, Pad-stored}
use Rattle.motion_pad.specs.Grow.{BoundsAnswer-grow}
use Rattle.motion_pad.proofs.Box.{grow-from}
use Rattle.motion_piece.specs.means.Piece.{JudgedMatrix-from, moved_intervals, moved_box, PaddedPose-enclose_bounds, PaddedPose-over, PaddedPose-stored}

-- ---- the steps of a pose
module _ (a : PoseConstants) (s0 s1 : Matrix4x4) (D : Interval) where
  pub matrix-steps : JudgedMatrix-outcome (Pose-enclose_matrix a s0 s1 D)
      ≡ and_then (JudgedVector-outcome (Pose-enclose_translation 0 (IntervalVector-point a.t0) (IntervalVector-point a.t1) D)) (λ (V : IntervalVector).
      and_then (JudgedQuaternion-outcome (Pose-enclose_slerp 0 a D)) (λ (Q : IntervalQuaternion).
      JudgedMatrix-outcome (Pose-enclose_composition a.rigid V (record { quaternion = Q; refusal = 0 }) s0 s1 D)))
  unfolding Pose-enclose_matrix
  matrix-steps = go (Pose-enclose_translation 0 (IntervalVector-point a.t0) (IntervalVector-point a.t1) D)
    where
      rotated : (V : IntervalVector) (m : ℕ) → m ≡ 0
          → JudgedMatrix-outcome (Pose-enclose_composition a.rigid V (Pose-enclose_slerp m a D) s0 s1 D)
          ≡ and_then (JudgedQuaternion-outcome (Pose-enclose_slerp 0 a D)) (λ (Q : IntervalQuaternion).
          JudgedMatrix-outcome (Pose-enclose_composition a.rigid V (record { quaternion = Q; refusal = 0 }) s0 s1 D))
      rotated V m z =
          let R = Pose-enclose_slerp 0 a D in
          let P = Pose-enclose_composition a.rigid V R s0 s1 D in
          rw z
          (chain R.quaternion R.refusal (JudgedQuaternion-outcome R)
          (λ (Q : IntervalQuaternion). JudgedMatrix-outcome (Pose-enclose_composition a.rigid V (record { quaternion = Q; refusal = 0 }) s0 s1 D))
          P.matrix P.refusal refl
          (λ e. ap (λ (n : ℕ). JudgedMatrix-outcome (Pose-enclose_composition a.rigid V (record { quaternion = R.quaternion; refusal = n }) s0 s1 D)) e)
          (λ h. composition-stands R.refusal h a.rigid V R.quaternion s0 s1 D))

      go : (T : JudgedVector)
          → JudgedMatrix-outcome (Pose-enclose_composition a.rigid T.vector (Pose-enclose_slerp T.refusal a D) s0 s1 D)
          ≡ and_then (JudgedVector-outcome T) (λ (V : IntervalVector).
          and_then (JudgedQuaternion-outcome (Pose-enclose_slerp 0 a D)) (λ (Q : IntervalQuaternion).
          JudgedMatrix-outcome (Pose-enclose_composition a.rigid V (record { quaternion = Q; refusal = 0 }) s0 s1 D)))
      go T =
          let R = Pose-enclose_slerp T.refusal a D in
          let P = Pose-enclose_composition a.rigid T.vector R s0 s1 D in
          chain T.vector T.refusal (JudgedVector-outcome T)
          (λ (V : IntervalVector). and_then (JudgedQuaternion-outcome (Pose-enclose_slerp 0 a D)) (λ (Q : IntervalQuaternion).
          JudgedMatrix-outcome (Pose-enclose_composition a.rigid V (record { quaternion = Q; refusal = 0 }) s0 s1 D)))
          P.matrix P.refusal refl (rotated T.vector T.refusal)
          (λ h.
          let r : R.refusal ≡ T.refusal = slerp-stands T.refusal h a D in
          let i : R.refusal ≢ 0 = rw r h in
          composition-stands R.refusal i a.rigid T.vector R.quaternion s0 s1 D ∙ r)

-- ---- an enclosure as an answer
from-enclosure : (j : JudgedVector) → BoundsAnswer-from_enclosure j ≡ moved_box (JudgedVector-outcome j)
unfolding BoundsAnswer-from_enclosure
from-enclosure j = go j.refusal refl
  where
    go : (n : ℕ) → j.refusal ≡ n → BoundsAnswer-from_enclosure j ≡ moved_box (outcome j.vector n)
    go zero e = rw e
    go (suc n) e = rw (e, ne_eqb (suc n) 0 (λ z. omega arith))

-- A refused matrix moves no box.
matrix-refused : (n : ℕ) (A : IntervalMatrix) (B : IntervalVector) → n ≢ 0 → BoundsAnswer-from_enclosure (Pose-enclose_transform_point n A B) ≡ Refused n
unfolding BoundsAnswer-from_enclosure
matrix-refused n A B h = rw (point-stands n h A B, ne_eqb n 0 h)

abbrev moved : JudgedMatrix → Bounds3f → BoundsAnswer
moved M b = BoundsAnswer-from_enclosure (Pose-enclose_transform_point M.refusal M.matrix (Bounds3f-intervals b))

pub moved-judged : (r : Result IntervalMatrix Refusal) (b : Bounds3f) → moved_box (moved_intervals (numbered r) b) ≡ moved (JudgedMatrix-from (numbered r)) b
moved-judged (Ok A) b = sym (from-enclosure (Pose-enclose_transform_point 0 A (Bounds3f-intervals b)))
moved-judged (Err e) b = sym (matrix-refused (Refusal-number e) _ (Bounds3f-intervals b) (number-nonzero e))

moved-from : (M : JudgedMatrix) (b : Bounds3f) → moved M b ≡ moved (JudgedMatrix-from (JudgedMatrix-outcome M)) b
moved-from M b = go M.refusal refl
  where
    go : (n : ℕ) → M.refusal ≡ n → moved M b ≡ moved (JudgedMatrix-from (outcome M.matrix n)) b
    go zero e = rw e
    go (suc n) e =
        let h : suc n ≢ 0 = λ z. omega arith in
        rw e (matrix-refused (suc n) M.matrix (Bounds3f-intervals b) h ∙ sym (matrix-refused (suc n) _ (Bounds3f-intervals b) h))

pub piece-steps : (a : PoseConstants) (s0 s1 : Matrix4x4) (pad0 pad1 : Float) (dt : Interval) (b : Bounds3f)
    → BoundsAnswer-grow (Pad-enclose pad0 pad1 dt) (BoundsAnswer-from_enclosure (Pose-enclose_point a s0 s1 dt (Bounds3f-intervals b)))
    ≡ PaddedPose-enclose_bounds (PaddedPose-over a s0 s1 pad0 pad1 dt) b
unfolding Pose-enclose_point PaddedPose-enclose_bounds
piece-steps a s0 s1 pad0 pad1 dt b =
    let M = Pose-enclose_matrix a s0 s1 dt in
    grow-from (Pad-enclose pad0 pad1 dt) (moved M b)
    ∙ ap (BoundsAnswer-grow (Judged-from (Judged-outcome (Pad-enclose pad0 pad1 dt)))) (moved-from M b)

pub piece-composition : (m : AnimatedTransform) (a : PoseConstants) (dt : Interval) (b : Bounds3f)
    → AnimatedTransform-enclose_bounds m a dt b ≡ PaddedPose-enclose_bounds (PaddedPose-over a m.s0 m.s1 m.pad0 m.pad1 dt) b
unfolding AnimatedTransform-enclose_bounds
piece-composition m a dt b = piece-steps a m.s0 m.s1 m.pad0 m.pad1 dt b

pub stored-composition : (pad : Float) (t : Transform) (b : Bounds3f) → Transform-enclose_padded pad t b ≡ PaddedPose-enclose_bounds (PaddedPose-stored pad t) b
unfolding Transform-enclose_padded Transform-enclose_bounds PaddedPose-enclose_bounds
stored-composition pad t b = refl
