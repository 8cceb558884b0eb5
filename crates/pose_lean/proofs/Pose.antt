-- Where a piece of dt is accepted as the cover judges it, its lean reading stands for it: the three intervals are finite and alike to the judged
-- ones, `point-accepted`.
use mathlib.Core.Path.{◌≡◌, subst}
use Prim.Native.Nat.{ℕ}
use mathlib.Core.Bool.{Bool, true, false}
use Rattle.pose_slerp.specs.matrix4x4.declared.Matrix4x4.{Matrix4x4}
use Rattle.formula_lean.specs.interval.declared.Interval.{Interval}
use Rattle.formula_lean.specs.interval.Contains.{Subset}
use Rattle.pose_slerp.specs.unit_interval.Unit.{unit_interval}
use Rattle.formula_lean.specs.alike.means.Alike.{Interval-Proper}
use Rattle.pose_slerp.specs.pose_steps.declared.PoseConstants.{PoseConstants}
use Rattle.pose_slerp.specs.pose_steps.declared.IntervalVector.{IntervalVector}
use Rattle.pose_slerp.specs.pose_steps.declared.IntervalMatrix.{IntervalMatrix}
use Rattle.pose_slerp.specs.pose_steps.Promise.{PoseConstants-Valid, FiniteScale}
use Rattle.pose_slerp.specs.pose_steps.Enclose.{IntervalVector-point, IntervalMatrix-point, IntervalMatrix-translation, Pose-enclose_translation, Pose-enclose_slerp}
use Rattle.pose_slerp.specs.pose_steps.Enclose.{Pose-enclose_scale_row, Pose-enclose_scale, enclose_scale_by, Pose-enclose_rotation, Pose-enclose_mul}
use Rattle.pose_slerp.specs.pose_steps.Enclose.{Pose-enclose_matrix, Pose-enclose_point}
use Rattle.pose_slerp.proofs.pose_steps.Zero.{slerp-zero, scale-row-zero, scale-by-zero, rotation-zero, mul-zero, point-zero}
use Rattle.pose_lean.specs.means.Lean.{LinearPart, one_minus, Lean-slerp, rotation, shifted, scale, product, linear_by, moved_by}
use Rattle.pose_lean.specs.means.Values.{ScaleValues, PoseValues}
use Rattle.pose_lean.proofs.Stages.{unit-stands, nought-stands, StandsVector, LeanRows, StandsRows, linear, affine, translated, identity, LeanRows-times}
use Rattle.pose_lean.proofs.Stages.{translation-lean, scale-row-lean, rotation-lean, mul-lean}
use Rattle.pose_lean.proofs.Stages.{translated-reading, scaled-reading, rigid-reading, point-lean}
use Rattle.pose_lean.proofs.Slerp.{slerp-lean}

-- ---- the scale, or the identity
abbrev scale_rows : Bool → Matrix4x4 → Matrix4x4 → Interval → LeanRows
scale_rows true s0 s1 D = identity
scale_rows false s0 s1 D = linear (scale s0 s1 (one_minus D) D)

module _ (s0 s1 : Matrix4x4) (f : FiniteScale s0) (g : FiniteScale s1) (v : ScaleValues s0) (w : ScaleValues s1) {D : Interval} (d : Interval-Proper D) where
  scale-lean : (b : Bool) (m : ℕ) → (enclose_scale_by b m s0 s1 D).refusal ≡ 0 → StandsRows (scale_rows b s0 s1 D) (enclose_scale_by b m s0 s1 D).matrix
  unfolding enclose_scale_by Pose-enclose_scale scale
  scale-lean true m h = record {
    r0 = (unit-stands, (nought-stands, (nought-stands, (nought-stands, tt))));
    r1 = (nought-stands, (unit-stands, (nought-stands, (nought-stands, tt))));
    r2 = (nought-stands, (nought-stands, (unit-stands, (nought-stands, tt))));
  }
  scale-lean false m h =
      let A = IntervalMatrix-point s0 in
      let B = IntervalMatrix-point s1 in
      let p = Pose-enclose_scale_row m A.r0 B.r0 D in
      let q = Pose-enclose_scale_row p.refusal A.r1 B.r1 D in
      let zq = scale-row-zero q.refusal A.r2 B.r2 D h in
      let zp = scale-row-zero p.refusal A.r1 B.r1 D zq in
      record {
        r0 = scale-row-lean m s0.r0 s1.r0 f.r0 g.r0 v.r0 w.r0 d zp;
        r1 = scale-row-lean p.refusal s0.r1 s1.r1 f.r1 g.r1 v.r1 w.r1 d zq;
        r2 = scale-row-lean q.refusal s0.r2 s1.r2 f.r2 g.r2 v.r2 w.r2 d h;
      }

-- The product by it.
linear-reading : (b : Bool) (A : LinearPart) (t : IntervalVector) (s0 s1 : Matrix4x4) (D : Interval) {M : IntervalMatrix}
    → StandsRows (LeanRows-times (affine A t) (scale_rows b s0 s1 D)) M → StandsRows (affine (linear_by b A s0 s1 (one_minus D) D) t) M
unfolding linear_by
linear-reading true A t s0 s1 D {M} s = subst (λ (R : LeanRows). StandsRows R M) (rigid-reading A t) s
linear-reading false A t s0 s1 D {M} s = subst (λ (R : LeanRows). StandsRows R M) (scaled-reading A (scale s0 s1 (one_minus D) D) t) s

-- ---- the piece
module _ (a : PoseConstants) (s0 s1 : Matrix4x4) (v : PoseConstants-Valid a) (f0 : FiniteScale s0) (f1 : FiniteScale s1) (values : PoseValues a s0 s1)
    {D : Interval} (d : Interval-Proper D) (u : Subset D unit_interval) where
  pub point-accepted : (p P : IntervalVector) → StandsVector p P → (Pose-enclose_point a s0 s1 D P).refusal ≡ 0
      → StandsVector (moved_by p (linear_by a.rigid (rotation (Lean-slerp a D)) s0 s1 (one_minus D) D) (shifted a.t0 a.t1 (one_minus D) D))
      (Pose-enclose_point a s0 s1 D P).vector
  unfolding Pose-enclose_point Pose-enclose_matrix
  point-accepted p P b z =
      let I = Pose-enclose_translation 0 (IntervalVector-point a.t0) (IntervalVector-point a.t1) D in
      let J = Pose-enclose_slerp I.refusal a D in
      let K = enclose_scale_by a.rigid J.refusal s0 s1 D in
      let L = Pose-enclose_rotation K.refusal J.quaternion in
      let T = IntervalMatrix-translation I.vector in
      let M = Pose-enclose_mul L.refusal T L.matrix in
      let N = Pose-enclose_mul M.refusal M.matrix K.matrix in
      let zN = point-zero N.refusal N.matrix P z in
      let zM = mul-zero M.refusal M.matrix K.matrix zN in
      let zL = mul-zero L.refusal T L.matrix zM in
      let zK = rotation-zero K.refusal J.quaternion zL in
      let zJ = scale-by-zero a.rigid J.refusal s0 s1 D zK in
      let zI = slerp-zero I.refusal a D zJ in
      let w = values.constants in
      let t = shifted a.t0 a.t1 (one_minus D) D in
      let A = rotation (Lean-slerp a D) in
      let i = translation-lean 0 a.t0 a.t1 v.t0 v.t1 w.t0 w.t1 d zI in
      let j = slerp-lean a v w d u I.refusal zJ in
      let k = scale-lean s0 s1 f0 f1 values.scale0 values.scale1 d a.rigid J.refusal zK in
      let l = rotation-lean K.refusal (Lean-slerp a D) J.quaternion j zL in
      let c : StandsRows (translated t) T = record {
        r0 = (unit-stands, (nought-stands, (nought-stands, (i.0, tt))));
        r1 = (nought-stands, (unit-stands, (nought-stands, (i.1.0, tt))));
        r2 = (nought-stands, (nought-stands, (unit-stands, (i.1.1.0, tt))));
      } in
      let e = subst (λ (R : LeanRows). StandsRows R M.matrix) (translated-reading t A) (mul-lean L.refusal T L.matrix c l zM) in
      let n = linear-reading a.rigid A t s0 s1 D (mul-lean M.refusal M.matrix K.matrix e k zN) in
      point-lean N.refusal N.matrix P (linear_by a.rigid A s0 s1 (one_minus D) D) t p n b z
