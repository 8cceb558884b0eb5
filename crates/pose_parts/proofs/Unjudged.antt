-- Where dt, one less it, and what comes out without judging are finite, this is the translation, or the scale, and the number met before stands:
-- `translation-unjudged`, `scale-unjudged`. The entries of both poses are finite where what comes out is.
use mathlib.Core.Path.{◌≡◌, sym, ap, ◌∙◌}
use mathlib.Core.Bool.{Bool, true}
use Prim.Native.Nat.{ℕ}
use mathlib.Core.List.{[], ◌∷◌, ◌++◌}
use lib.Dec.{T}
use lib.Ieee.{Float, of_bits}
use lib.Ieee.Scale.{finite}
use Rattle.float32.specs.Operators.{◌⊕◌, one}
use Rattle.vector3.specs.declared.Vector3f.{Vector3f}
use Rattle.matrix4x4.specs.declared.Matrix4x4.{Matrix4x4}
use Rattle.matrix4x4.specs.Rows.{Row, col}
use Rattle.interval.specs.declared.Interval.{Interval}
use Rattle.interval.specs.Contains.{Finite}
use Rattle.interval.specs.Interval.{Interval-point}
use Rattle.interval.specs.Enclosure.{Interval-add_enclosure, Interval-sub_enclosure}
use Rattle.interval_unjudged.specs.means.Ordered.{Interval-mul_ordered, Interval-ends_sum}
use Rattle.interval_unjudged.specs.means.Unjudged.{Expr-unjudged, Expr-unjudged_all, Program-unjudged, All}
use Rattle.interval_unjudged.proofs.Finite.{add-operands, left-point, right-point, ends-finite}
use Rattle.interval_unjudged.proofs.Unjudged.{program-unjudged}
use Rattle.pose_steps.specs.declared.IntervalVector.{IntervalVector}
use Rattle.pose_steps.specs.declared.IntervalRow.{IntervalRow}
use Rattle.pose_steps.specs.declared.IntervalMatrix.{IntervalMatrix}
use Rattle.pose_steps.specs.Stages.{translation_stage, scale_row_stage}
use Rattle.pose_steps.specs.Enclose.{IntervalVector-list, IntervalVector-point, IntervalRow-list, IntervalRow-three, IntervalRow-point}
use Rattle.pose_steps.specs.Enclose.{IntervalMatrix-point, JudgedVector-of, JudgedRow-of, Pose-enclose_translation, Pose-enclose_scale_row, Pose-enclose_scale}
use Rattle.pose_ends.specs.means.Ends.{IntervalVector-ends_sum, IntervalMatrix-ends_sum}
use Rattle.pose_ends.proofs.Finite.{three-finite, vector-finite, rows-finite}
use Rattle.pose_parts.specs.means.Unjudged.{Pose-unjudged_translation, Pose-unjudged_scale_row, Pose-unjudged_scale}

abbrev 𝟏 : Interval
𝟏 = Interval-point one

abbrev rest : Interval → Interval
rest dt = Interval-sub_enclosure 𝟏 dt

-- ---- a point of each pose, weighed
left-points : (a b : Float) (X Y : Interval)
    → Finite (Interval-add_enclosure (Interval-mul_ordered (Interval-point a) X) (Interval-mul_ordered (Interval-point b) Y))
    → Finite (Interval-point a) × Finite (Interval-point b)
left-points a b X Y f =
    let g = add-operands (Interval-mul_ordered (Interval-point a) X) (Interval-mul_ordered (Interval-point b) Y) f in
    (left-point a X g.0, left-point b Y g.1)

right-points : (X Y : Interval) (a b : Float)
    → Finite (Interval-add_enclosure (Interval-mul_ordered X (Interval-point a)) (Interval-mul_ordered Y (Interval-point b)))
    → Finite (Interval-point a) × Finite (Interval-point b)
right-points X Y a b f =
    let g = add-operands (Interval-mul_ordered X (Interval-point a)) (Interval-mul_ordered Y (Interval-point b)) f in
    (right-point X a g.0, right-point Y b g.1)

-- ---- translation
translation-unjudged : (m : ℕ) (t0 t1 : Vector3f) (dt : Interval) → Finite dt → Finite (rest dt)
    → All Finite (IntervalVector-list (Pose-unjudged_translation (IntervalVector-point t0) (IntervalVector-point t1) dt))
    → record { vector = Pose-unjudged_translation (IntervalVector-point t0) (IntervalVector-point t1) dt; refusal = m }
    ≡ Pose-enclose_translation m (IntervalVector-point t0) (IntervalVector-point t1) dt
unfolding Pose-enclose_translation Pose-unjudged_translation Program-unjudged Expr-unjudged_all Expr-unjudged of_bits
translation-unjudged m t0 t1 dt d s f =
    let σ = IntervalVector-list (IntervalVector-point t0) ++ IntervalVector-list (IntervalVector-point t1) ++ dt ∷ [] in
    let x = left-points t0.x t1.x (rest dt) dt f.0 in
    let y = left-points t0.y t1.y (rest dt) dt f.1.0 in
    let z = left-points t0.z t1.z (rest dt) dt f.1.1.0 in
    sym (ap JudgedVector-of (program-unjudged translation_stage m σ (x.0, (y.0, (z.0, (x.1, (y.1, (z.1, (d, tt))))))) tt (s, f) tt))

-- As the code has it: t is the test of the sum.
pub translation-tested : (m : ℕ) (t0 t1 : Vector3f) (dt : Interval) {s : Interval} {v : IntervalVector} {A B C : Float} {t : Bool}
    → s ≡ rest dt → v ≡ Pose-unjudged_translation (IntervalVector-point t0) (IntervalVector-point t1) dt
    → A ≡ Interval-ends_sum dt → B ≡ Interval-ends_sum s → C ≡ IntervalVector-ends_sum v → t ≡ finite (A ⊕ B ⊕ C) → t ≡ true
    → record { vector = v; refusal = m } ≡ Pose-enclose_translation m (IntervalVector-point t0) (IntervalVector-point t1) dt
translation-tested m t0 t1 dt es ev ea eb ec et h =
    let v = Pose-unjudged_translation (IntervalVector-point t0) (IntervalVector-point t1) dt in
    let f = three-finite (Interval-ends_sum dt) (Interval-ends_sum (rest dt)) (IntervalVector-ends_sum v) (rw (← es, ← ev, ← ea, ← eb, ← ec, sym et ∙ h) tt) in
    rw ev (translation-unjudged m t0 t1 dt (ends-finite dt f.0) (ends-finite (rest dt) f.1.0) (vector-finite v f.1.1))

-- ---- scale
scale-row-unjudged : (m : ℕ) (s0 s1 : Row) (dt : Interval) → Finite dt → Finite (rest dt)
    → All Finite (IntervalRow-list (Pose-unjudged_scale_row (IntervalRow-point s0) (IntervalRow-point s1) dt))
    → Pose-enclose_scale_row m (IntervalRow-point s0) (IntervalRow-point s1) dt
    ≡ record { row = Pose-unjudged_scale_row (IntervalRow-point s0) (IntervalRow-point s1) dt; refusal = m }
unfolding Pose-enclose_scale_row Pose-unjudged_scale_row Program-unjudged Expr-unjudged_all Expr-unjudged of_bits
scale-row-unjudged m s0 s1 dt d s f =
    let σ = IntervalRow-three (IntervalRow-point s0) ++ IntervalRow-three (IntervalRow-point s1) ++ dt ∷ [] in
    let x = right-points (rest dt) dt (col s0 0) (col s1 0) f.0 in
    let y = right-points (rest dt) dt (col s0 1) (col s1 1) f.1.0 in
    let z = right-points (rest dt) dt (col s0 2) (col s1 2) f.1.1.0 in
    ap JudgedRow-of
    (program-unjudged scale_row_stage m σ (x.0, (y.0, (z.0, (x.1, (y.1, (z.1, (d, tt))))))) tt (f.0, (s, (f.1.0, (s, (f.1.1.0, (s, tt)))))) tt)

scale-unjudged : (m : ℕ) (s0 s1 : Matrix4x4) (dt : Interval) → Finite dt → Finite (rest dt)
    → T (finite (IntervalMatrix-ends_sum (Pose-unjudged_scale (IntervalMatrix-point s0) (IntervalMatrix-point s1) dt)))
    → record { matrix = Pose-unjudged_scale (IntervalMatrix-point s0) (IntervalMatrix-point s1) dt; refusal = m }
    ≡ Pose-enclose_scale m (IntervalMatrix-point s0) (IntervalMatrix-point s1) dt
unfolding Pose-enclose_scale Pose-unjudged_scale
scale-unjudged m s0 s1 dt d s h =
    let f = rows-finite (Pose-unjudged_scale (IntervalMatrix-point s0) (IntervalMatrix-point s1) dt) h in
    rw (
      scale-row-unjudged m s0.r0 s1.r0 dt d s f.r0,
      scale-row-unjudged m s0.r1 s1.r1 dt d s f.r1,
      scale-row-unjudged m s0.r2 s1.r2 dt d s f.r2,
    )

pub scale-tested : (m : ℕ) (s0 s1 : Matrix4x4) (dt : Interval) {s : Interval} {S : IntervalMatrix} {A B C : Float} {t : Bool}
    → s ≡ rest dt → S ≡ Pose-unjudged_scale (IntervalMatrix-point s0) (IntervalMatrix-point s1) dt
    → A ≡ Interval-ends_sum dt → B ≡ Interval-ends_sum s → C ≡ IntervalMatrix-ends_sum S → t ≡ finite (A ⊕ B ⊕ C) → t ≡ true
    → record { matrix = S; refusal = m } ≡ Pose-enclose_scale m (IntervalMatrix-point s0) (IntervalMatrix-point s1) dt
scale-tested m s0 s1 dt es eS ea eb ec et h =
    let S = Pose-unjudged_scale (IntervalMatrix-point s0) (IntervalMatrix-point s1) dt in
    let f = three-finite (Interval-ends_sum dt) (Interval-ends_sum (rest dt)) (IntervalMatrix-ends_sum S) (rw (← es, ← eS, ← ea, ← eb, ← ec, sym et ∙ h) tt) in
    rw eS (scale-unjudged m s0 s1 dt (ends-finite dt f.0) (ends-finite (rest dt) f.1.0) f.1.1)
