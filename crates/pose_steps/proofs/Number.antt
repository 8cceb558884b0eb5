-- The numbers that a slice can give: 5, and 10 of a squared length (`matrix-number`, `point-number`); one induction over the language, `program-number`.
-- A point query between the poses gives 5 alone (`moved_point-judged`).
use Rattle.std.specs.Prelude.{Ok, Err}
use mathlib.Core.Path.{refl}
use mathlib.Core.Logic.{inl, inr}
use Prim.Native.Nat.{ℕ}
use mathlib.Core.Bool.{Bool, true, false, ◌&&◌, cond}
use mathlib.Core.List.{List, [], ◌∷◌, ◌++◌}
use lib.ListN.{length}
use lib.Dec.{T, eqb}
use lib.Ieee.{Float, binary32, of_bits, le}
use lib.Ieee.Fits.{and_r}
use lib.Ieee.Scale.{finite}
use Rattle.interval.proofs.refusal.First.{first-keeps}
use Rattle.interval.specs.refusal.First.{first_refusal}
use Rattle.matrix4x4.specs.declared.Matrix4x4.{Matrix4x4}
use Rattle.rotation.specs.bounds3.declared.Point3f.{Point3f}
use Rattle.rotation.specs.bounds3.Finite.{Point3f-is_finite}
use Rattle.rotation.specs.transform.Answer.{PointAnswer-Judged}
use Rattle.rotation.proofs.transform.Judged.{origin-finite}
use Rattle.interval.specs.declared.Interval.{Interval}
use Rattle.interval.specs.Interval.{Interval-point}
use Rattle.interval.specs.Enclosure.{not_finite, not_positive, Judged-judge, Interval-div_enclosure, Interval-sqrt_enclosure}
use Rattle.interval.specs.Enclosure.{Judged-add_enclosure, Judged-sub_enclosure, Judged-mul_enclosure, Judged-div_enclosure}
use Rattle.interval.specs.Enclosure.{Judged-sqrt_enclosure, Judged-sin_enclosure, Judged-cos_enclosure, Interval-add_enclosure}
use Rattle.interval.specs.Enclosure.{Interval-sub_enclosure, Interval-mul_enclosure, Interval-sin_enclosure, Interval-cos_enclosure}
use Rattle.formula.specs.Program.{Binary, sum, difference, product, quotient, Unary, root, sine, cosine, Expr, var, con, binary, unary, Program, ◌>>=◌, give}
use Rattle.formula.specs.Enclose.{Binary-enclose, Unary-enclose, Expr-enclose, Enclosure, enclosure, Expr-enclose_all, extend, Program-enclose}
use Rattle.pose_steps.specs.declared.PoseConstants.{PoseConstants}
use Rattle.pose_steps.specs.declared.IntervalVector.{IntervalVector}
use Rattle.pose_steps.specs.declared.IntervalRow.{IntervalRow}
use Rattle.pose_steps.specs.declared.IntervalMatrix.{IntervalMatrix}
use Rattle.pose_steps.specs.Stages.{translation_stage, slerp_near_stage, slerp_far_stage, scale_row_stage, rotation_stage, mul_row_stage, transform_point_stage}
use Rattle.pose_steps.specs.Pose.{is_near, Pose-transform_point, Pose-matrix, Pose-moved_point}
use Rattle.pose_steps.specs.Enclose.{IntervalVector-list, IntervalVector-point, IntervalQuaternion-list, IntervalQuaternion-point}
use Rattle.pose_steps.specs.Enclose.{IntervalRow-list, IntervalRow-three, IntervalMatrix-list, IntervalMatrix-point, Pose-enclose_translation}
use Rattle.pose_steps.specs.Enclose.{Pose-enclose_slerp_near, Pose-enclose_slerp_far, enclose_slerp_by, Pose-enclose_slerp, Pose-enclose_scale_row}
use Rattle.pose_steps.specs.Enclose.{Pose-enclose_scale, enclose_scale_by, Pose-enclose_rotation, Pose-enclose_mul_row, Pose-enclose_mul}
use Rattle.pose_steps.specs.Enclose.{Pose-enclose_transform_point, IntervalMatrix-translation, Pose-enclose_matrix, Pose-enclose_point}
use Rattle.pose_steps.specs.Promise.{SliceNumber}

-- ---- one operation
first-number : (m n : ℕ) → SliceNumber m → SliceNumber n → SliceNumber (first_refusal m n)
first-number m n i j = first-keeps SliceNumber m n i j

finite_number : (X : Interval) → SliceNumber (not_finite X)
unfolding not_finite
finite_number X = go (finite X.low && finite X.high)
  where
    go : (b : Bool) → SliceNumber (cond b 0 5)
    go true = inl refl
    go false = inr (inl refl)

positive-number : (X : Interval) → SliceNumber (not_positive X)
unfolding not_positive
positive-number X = go (le X.low (of_bits binary32 0))
  where
    go : (b : Bool) → SliceNumber (cond b 10 0)
    go true = inr (inr refl)
    go false = inl refl

judge-number : (m : ℕ) (X : Interval) → SliceNumber m → SliceNumber (Judged-judge m X).refusal
unfolding Judged-judge
judge-number m X i = first-number m (not_finite X) i (finite_number X)

positive-judged : (m : ℕ) (Y X : Interval) → SliceNumber m → SliceNumber (Judged-judge (first_refusal m (not_positive Y)) X).refusal
positive-judged m Y X i = judge-number (first_refusal m (not_positive Y)) X (first-number m (not_positive Y) i (positive-number Y))

binary-number : (o : Binary) (m : ℕ) (X Y : Interval) → SliceNumber m → SliceNumber (Binary-enclose o m X Y).refusal
unfolding Judged-add_enclosure Judged-sub_enclosure Judged-mul_enclosure Judged-div_enclosure
binary-number sum m X Y i = judge-number m (Interval-add_enclosure X Y) i
binary-number difference m X Y i = judge-number m (Interval-sub_enclosure X Y) i
binary-number product m X Y i = judge-number m (Interval-mul_enclosure X Y) i
binary-number quotient m X Y i = positive-judged m Y (Interval-div_enclosure X Y) i

unary-number : (o : Unary) (m : ℕ) (X : Interval) → SliceNumber m → SliceNumber (Unary-enclose o m X).refusal
unfolding Judged-sqrt_enclosure Judged-sin_enclosure Judged-cos_enclosure
unary-number root m X i = positive-judged m X (Interval-sqrt_enclosure X) i
unary-number sine m X i = judge-number m (Interval-sin_enclosure X) i
unary-number cosine m X i = judge-number m (Interval-cos_enclosure X) i

-- ---- the induction
expr-number : (m : ℕ) (σ : List Interval) (e : Expr) → SliceNumber m → SliceNumber (Expr-enclose m σ e).refusal
unfolding Expr-enclose
expr-number m σ (var i) n = n
expr-number m σ (con x) n = n
expr-number m σ (binary o a b) n =
    let p = Expr-enclose m σ a in
    let q = Expr-enclose p.refusal σ b in
    binary-number o q.refusal p.interval q.interval (expr-number p.refusal σ b (expr-number m σ a n))
expr-number m σ (unary o a) n = let p = Expr-enclose m σ a in unary-number o p.refusal p.interval (expr-number m σ a n)

all-number : (m : ℕ) (σ : List Interval) (es : List Expr) → SliceNumber m → SliceNumber (Expr-enclose_all m σ es).refusal
unfolding Expr-enclose_all
all-number m σ [] n = n
all-number m σ (e ∷ es) n = all-number (Expr-enclose m σ e).refusal σ es (expr-number m σ e n)

pub program-number : (p : Program) (c : Enclosure) → SliceNumber c.refusal → SliceNumber (Program-enclose c p).refusal
unfolding Program-enclose
program-number (give es) c n = all-number c.refusal c.intervals es n
program-number (e >>= k) c n =
    let σ = c.intervals in
    let j = Expr-enclose c.refusal σ e in
    program-number (k (var (length σ))) (extend σ j) (expr-number c.refusal σ e n)

-- ---- the stages in sequence
slerp-number : (m : ℕ) (a : PoseConstants) (D : Interval) → SliceNumber m → SliceNumber (Pose-enclose_slerp m a D).refusal
unfolding Pose-enclose_slerp enclose_slerp_by Pose-enclose_slerp_near Pose-enclose_slerp_far
slerp-number m a D n = go (is_near a)
  where
    go : (b : Bool) → SliceNumber (enclose_slerp_by b m a D).refusal
    go true = program-number slerp_near_stage
        (enclosure m (IntervalQuaternion-list (IntervalQuaternion-point a.r0) ++ IntervalQuaternion-list (IntervalQuaternion-point a.r1) ++ D ∷ [])) n
    go false =
        program-number slerp_far_stage
        (enclosure m (IntervalQuaternion-list (IntervalQuaternion-point a.r0) ++ IntervalQuaternion-list (IntervalQuaternion-point a.r1)
        ++ Interval-point a.cos_theta ∷ Interval-point a.theta ∷ D ∷ []))
        n

scale-row-number : (m : ℕ) (s0 s1 : IntervalRow) (D : Interval) → SliceNumber m → SliceNumber (Pose-enclose_scale_row m s0 s1 D).refusal
unfolding Pose-enclose_scale_row
scale-row-number m s0 s1 D n = program-number scale_row_stage (enclosure m (IntervalRow-three s0 ++ IntervalRow-three s1 ++ D ∷ [])) n

scale-number : (m : ℕ) (s0 s1 : IntervalMatrix) (D : Interval) → SliceNumber m → SliceNumber (Pose-enclose_scale m s0 s1 D).refusal
unfolding Pose-enclose_scale
scale-number m s0 s1 D n =
    let p = Pose-enclose_scale_row m s0.r0 s1.r0 D in
    let q = Pose-enclose_scale_row p.refusal s0.r1 s1.r1 D in
    scale-row-number q.refusal s0.r2 s1.r2 D (scale-row-number p.refusal s0.r1 s1.r1 D (scale-row-number m s0.r0 s1.r0 D n))

scale-by-number : (k : Bool) (m : ℕ) (s0 s1 : Matrix4x4) (D : Interval) → SliceNumber m → SliceNumber (enclose_scale_by k m s0 s1 D).refusal
unfolding enclose_scale_by
scale-by-number true m s0 s1 D n = n
scale-by-number false m s0 s1 D n = scale-number m (IntervalMatrix-point s0) (IntervalMatrix-point s1) D n

mul-row-number : (m : ℕ) (R : IntervalRow) (M : IntervalMatrix) → SliceNumber m → SliceNumber (Pose-enclose_mul_row m R M).refusal
unfolding Pose-enclose_mul_row
mul-row-number m R M n = program-number mul_row_stage (enclosure m (IntervalRow-list R ++ IntervalMatrix-list M)) n

mul-number : (m : ℕ) (A B : IntervalMatrix) → SliceNumber m → SliceNumber (Pose-enclose_mul m A B).refusal
unfolding Pose-enclose_mul
mul-number m A B n =
    let p = Pose-enclose_mul_row m A.r0 B in
    let q = Pose-enclose_mul_row p.refusal A.r1 B in
    mul-row-number q.refusal A.r2 B (mul-row-number p.refusal A.r1 B (mul-row-number m A.r0 B n))

pub transform_point-number : (m : ℕ) (M : IntervalMatrix) (P : IntervalVector) → SliceNumber m → SliceNumber (Pose-enclose_transform_point m M P).refusal
unfolding Pose-enclose_transform_point
transform_point-number m M P n = program-number transform_point_stage (enclosure m (IntervalMatrix-list M ++ IntervalVector-list P)) n

module _ (a : PoseConstants) (s0 s1 : Matrix4x4) (D : Interval) where
  pub matrix-number : SliceNumber (Pose-enclose_matrix a s0 s1 D).refusal
  unfolding Pose-enclose_matrix Pose-enclose_translation Pose-enclose_rotation
  matrix-number =
      let t0 = IntervalVector-point a.t0 in
      let t1 = IntervalVector-point a.t1 in
      let I = Pose-enclose_translation 0 t0 t1 D in
      let J = Pose-enclose_slerp I.refusal a D in
      let K = enclose_scale_by a.rigid J.refusal s0 s1 D in
      let L = Pose-enclose_rotation K.refusal J.quaternion in
      let M = Pose-enclose_mul L.refusal (IntervalMatrix-translation I.vector) L.matrix in
      mul-number M.refusal M.matrix K.matrix
      (mul-number L.refusal (IntervalMatrix-translation I.vector) L.matrix
      (program-number rotation_stage (enclosure K.refusal (IntervalQuaternion-list J.quaternion))
      (scale-by-number a.rigid J.refusal s0 s1 D
      (slerp-number I.refusal a D
      (program-number translation_stage (enclosure 0 (IntervalVector-list t0 ++ IntervalVector-list t1 ++ D ∷ [])) (inl refl))))))

  pub point-number : (P : IntervalVector) → SliceNumber (Pose-enclose_point a s0 s1 D P).refusal
  unfolding Pose-enclose_point
  point-number P = let M = Pose-enclose_matrix a s0 s1 D in transform_point-number M.refusal M.matrix P matrix-number

-- ---- a point query's: 5 alone, and its point is finite where nothing is refused
pub moved_point-judged : (a : PoseConstants) (s0 s1 : Matrix4x4) (dt : Float) (p : Point3f) → PointAnswer-Judged (Pose-moved_point a s0 s1 dt p)
unfolding Pose-moved_point
moved_point-judged a s0 s1 dt p =
    let pose = Pose-matrix a s0 s1 dt in
    let q = Pose-transform_point pose.m p in
    let z = eqb pose.refusal 0 in
    go q (z && Point3f-is_finite q) (and_r z (Point3f-is_finite q))
  where
    go : (q : Point3f) (b : Bool) → (T b → T (Point3f-is_finite q)) → PointAnswer-Judged (cond b (Ok q) (Err 5))
    go q true f = record { number = inl refl; values = f tt }
    go q false f = record { number = inr refl; values = origin-finite }
