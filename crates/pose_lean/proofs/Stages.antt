-- Where a judged stage of a pose is accepted, the lean one stands for it, interval by interval: `translation-lean` and its like. The lean readings of
-- the stages are the definitions of specs/means/Lean.antt, by computing.
use mathlib.Core.Path.{◌≡◌, refl, sym, subst}
use Prim.Native.Nat.{ℕ}
use mathlib.Core.List.{List, [], ◌∷◌, ◌++◌, map}
use lib.Dec.{T}
use lib.Ieee.{Float, binary32, le, of_bits, fits}
use lib.Ieee.Bits.{of_bits-fits}
use lib.Ieee.Scale.{finite}
use Rattle.formula_lean.specs.float32.Operators.{positive_zero, one}
use Rattle.formula_lean.proofs.float32.Constants.{zero-finite, one-finite}
use Rattle.pose_slerp.specs.vector3.declared.Vector3f.{Vector3f}
use Rattle.pose_slerp.specs.matrix4x4.Rows.{Row}
use Rattle.formula_lean.specs.interval.declared.Interval.{Interval}
use Rattle.formula_lean.specs.interval.Interval.{Interval-point}
use Rattle.formula_lean.specs.interval_unjudged.means.Unjudged.{All}
use Rattle.formula_lean.specs.formula.Program.{Program}
use Rattle.formula_lean.specs.formula.Enclose.{Enclosure, enclosure, Program-enclose}
use Rattle.formula_lean.specs.formula.Promise.{Pairwise}
use Rattle.formula_lean.specs.formula.Stage.{Program-stage}
use Rattle.formula_lean.proofs.formula.Pairwise.{pairwise_append}
use Rattle.formula_lean.proofs.formula.Stage.{stage_is}
use Rattle.formula_lean.specs.alike.means.Alike.{Interval-Proper}
use Rattle.formula_lean.proofs.alike.Intervals.{interval-self, interval-sym}
use Rattle.formula_lean.proofs.alike.Constant.{ordered-alike}
use Rattle.formula_lean.proofs.alike.Proper.{point-proper}
use Rattle.formula_lean.proofs.alike.Terms.{zero-interval, one-interval}
use Rattle.formula_lean.specs.means.Lean.{Lean, nought, unit, number, span, range, Lean-Angles, Lean-of, Expr-lean, Expr-lean_all, Program-lean}
use Rattle.formula_lean.specs.means.Asked.{Program-bound, Program-turned}
use Rattle.formula_lean.proofs.Operations.{Stands}
use Rattle.formula_lean.proofs.Program.{program-lean}
use Rattle.pose_slerp.specs.pose_steps.declared.IntervalVector.{IntervalVector}
use Rattle.pose_slerp.specs.pose_steps.declared.IntervalQuaternion.{IntervalQuaternion}
use Rattle.pose_slerp.specs.pose_steps.declared.IntervalRow.{IntervalRow}
use Rattle.pose_slerp.specs.pose_steps.declared.IntervalMatrix.{IntervalMatrix}
use Rattle.pose_slerp.specs.pose_steps.Stages.{translation_stage, scale_row_stage, rotation_stage, mul_row_stage, transform_point_stage}
use Rattle.pose_slerp.specs.pose_steps.Pose.{Vector3f-list, three}
use Rattle.pose_slerp.specs.pose_steps.Promise.{AllFinite}
use Rattle.pose_slerp.specs.pose_steps.Enclose.{IntervalVector-list, IntervalQuaternion-list, IntervalRow-list, IntervalRow-three, IntervalMatrix-list}
use Rattle.pose_slerp.specs.pose_steps.Enclose.{IntervalVector-point, IntervalRow-point, Pose-enclose_translation, Pose-enclose_scale_row, Pose-enclose_rotation}
use Rattle.pose_slerp.specs.pose_steps.Enclose.{Pose-enclose_mul_row, Pose-enclose_mul, Pose-enclose_transform_point}
use Rattle.pose_slerp.proofs.pose_steps.Zero.{mul-row-zero}
use Rattle.pose_lean.specs.means.Lean.{LinearPart, mix, lerp, one_minus, diagonal, twice_sum, twice_difference, rotation}
use Rattle.pose_lean.specs.means.Lean.{shifted, scale_row, dot, row_by, product, moved, moved_by}
use Rattle.pose_lean.specs.means.Values.{AllValues}

-- ---- what stands for numbers, and for an interval
pub nought-stands : Stands nought (Interval-point positive_zero)
nought-stands = record {
  good = tt;
  proper = point-proper positive_zero zero-finite (of_bits-fits binary32 0);
  alike = interval-self (Interval-point positive_zero) zero-interval;
}

pub unit-stands : Stands unit (Interval-point one)
unit-stands = record {
  good = tt;
  proper = point-proper one one-finite (of_bits-fits binary32 0x3f800000);
  alike = interval-self (Interval-point one) one-interval;
}

pub number-stands : (x : Float) → T (finite x) → T (fits binary32 x) → Stands (number x) (Interval-point x)
number-stands x f v = record { good = f; proper = point-proper x f v; alike = interval-self (Interval-point x) (record { low = f; high = f }) }

-- By its two ends.
pub span-stands : {X : Interval} → Interval-Proper X → Stands (span X.low X.high) X
span-stands p = record { good = (p.finite.low, p.finite.high); proper = p; alike = interval-sym (ordered-alike p.rises) }

pub range-stands : {X : Interval} → Interval-Proper X → Stands (range X) X
range-stands {X} p = record { good = p.finite; proper = p; alike = interval-self X p.finite }

abbrev pub numbers : List Float → List Lean
numbers = map number

pub numbers-stand : (l : List Float) → AllFinite l → AllValues l → Pairwise Stands (numbers l) (map Interval-point l)
numbers-stand [] f v = tt
numbers-stand (x ∷ l) f v = (number-stands x f.0 v.0, numbers-stand l f.1 v.1)

-- ---- a stage, as the struct that it fills lists it
pub stage-lean : (p : Program) (m : ℕ) (σ : List Interval) (τ : List Lean) → Pairwise Stands τ σ → T (Program-bound (enclosure m σ) p)
    → All Lean-Angles (Program-turned τ p) → (Program-enclose (enclosure m σ) p).refusal ≡ 0
    → Pairwise Stands (Program-lean τ p) (Program-stage (enclosure m σ) p).intervals
stage-lean p m σ τ s b t h =
    subst (λ (c : Enclosure). Pairwise Stands (Program-lean τ p) c.intervals) (sym (stage_is (enclosure m σ) p)) (program-lean p m σ τ s b t h)

-- ---- lean vectors and rows stand for judged ones
abbrev pub ranges : IntervalVector → List Lean
ranges v = range v.x ∷ range v.y ∷ range v.z ∷ []

abbrev pub StandsVector : IntervalVector → IntervalVector → Type 0
StandsVector v W = Pairwise Stands (ranges v) (IntervalVector-list W)

abbrev quaternion_ranges : IntervalQuaternion → List Lean
quaternion_ranges q = range q.x ∷ range q.y ∷ range q.z ∷ range q.w ∷ []

abbrev pub StandsQuaternion : IntervalQuaternion → IntervalQuaternion → Type 0
StandsQuaternion q W = Pairwise Stands (quaternion_ranges q) (IntervalQuaternion-list W)

pub record LeanRows : Type 0 where
  pub r0 : List Lean
  pub r1 : List Lean
  pub r2 : List Lean

abbrev pub LeanRows-list : LeanRows → List Lean
LeanRows-list A = A.r0 ++ A.r1 ++ A.r2

pub record StandsRows (A : LeanRows) (M : IntervalMatrix) : Type 0 where
  pub r0 : Pairwise Stands A.r0 (IntervalRow-list M.r0)
  pub r1 : Pairwise Stands A.r1 (IntervalRow-list M.r1)
  pub r2 : Pairwise Stands A.r2 (IntervalRow-list M.r2)

rows-stand : {A : LeanRows} {M : IntervalMatrix} → StandsRows A M → Pairwise Stands (LeanRows-list A) (IntervalMatrix-list M)
rows-stand {A} {M} s =
    pairwise_append Stands (A.r0 ++ A.r1) A.r2 (IntervalRow-list M.r0 ++ IntervalRow-list M.r1) (IntervalRow-list M.r2)
    (pairwise_append Stands A.r0 A.r1 (IntervalRow-list M.r0) (IntervalRow-list M.r1) s.r0 s.r1) s.r2

-- Rows of three with a fourth column.
abbrev with-column : LinearPart → Lean → Lean → Lean → LeanRows
with-column A x y z = record { r0 = ranges A.r0 ++ x ∷ []; r1 = ranges A.r1 ++ y ∷ []; r2 = ranges A.r2 ++ z ∷ [] }

abbrev pub linear : LinearPart → LeanRows
linear A = with-column A nought nought nought

abbrev pub affine : LinearPart → IntervalVector → LeanRows
affine A t = with-column A (range t.x) (range t.y) (range t.z)

abbrev pub translated : IntervalVector → LeanRows
translated t = record {
  r0 = unit ∷ nought ∷ nought ∷ range t.x ∷ [];
  r1 = nought ∷ unit ∷ nought ∷ range t.y ∷ [];
  r2 = nought ∷ nought ∷ unit ∷ range t.z ∷ [];
}

abbrev pub identity : LeanRows
identity = record { r0 = unit ∷ nought ∷ nought ∷ nought ∷ []; r1 = nought ∷ unit ∷ nought ∷ nought ∷ []; r2 = nought ∷ nought ∷ unit ∷ nought ∷ [] }

-- ---- translation
pub translation-lean : (m : ℕ) (t0 t1 : Vector3f) {D : Interval} → AllFinite (Vector3f-list t0) → AllFinite (Vector3f-list t1)
    → AllValues (Vector3f-list t0) → AllValues (Vector3f-list t1) → Interval-Proper D
    → (Pose-enclose_translation m (IntervalVector-point t0) (IntervalVector-point t1) D).refusal ≡ 0
    → StandsVector (shifted t0 t1 (one_minus D) D) (Pose-enclose_translation m (IntervalVector-point t0) (IntervalVector-point t1) D).vector
unfolding Pose-enclose_translation Program-lean Expr-lean_all Expr-lean Lean-of le of_bits fits shifted mix one_minus
translation-lean m t0 t1 {D} f g v w d h =
    let x = numbers-stand (Vector3f-list t0) f v in
    let y = numbers-stand (Vector3f-list t1) g w in
    let τ = numbers (Vector3f-list t0) ++ numbers (Vector3f-list t1) ++ range D ∷ [] in
    let σ = IntervalVector-list (IntervalVector-point t0) ++ IntervalVector-list (IntervalVector-point t1) ++ D ∷ [] in
    let s : Pairwise Stands τ σ = (x.0, (x.1.0, (x.1.1.0, (y.0, (y.1.0, (y.1.1.0, (range-stands d, tt))))))) in
    stage-lean translation_stage m σ τ s tt tt h

-- ---- a row of the scale
pub scale-row-lean : (m : ℕ) (r s : Row) {D : Interval} → AllFinite (three r) → AllFinite (three s)
    → AllValues (three r) → AllValues (three s) → Interval-Proper D
    → (Pose-enclose_scale_row m (IntervalRow-point r) (IntervalRow-point s) D).refusal ≡ 0
    → Pairwise Stands (ranges (scale_row r s (one_minus D) D) ++ nought ∷ [])
    (IntervalRow-list (Pose-enclose_scale_row m (IntervalRow-point r) (IntervalRow-point s) D).row)
unfolding Pose-enclose_scale_row Program-lean Expr-lean_all Expr-lean Lean-of le of_bits fits scale_row lerp one_minus
scale-row-lean m r s {D} f g v w d h =
    let x = numbers-stand (three r) f v in
    let y = numbers-stand (three s) g w in
    let τ = numbers (three r) ++ numbers (three s) ++ range D ∷ [] in
    let σ = IntervalRow-three (IntervalRow-point r) ++ IntervalRow-three (IntervalRow-point s) ++ D ∷ [] in
    let k : Pairwise Stands τ σ = (x.0, (x.1.0, (x.1.1.0, (y.0, (y.1.0, (y.1.1.0, (range-stands d, tt))))))) in
    stage-lean scale_row_stage m σ τ k tt tt h

-- ---- the matrix of a quaternion
rotation-list : (m : ℕ) (q Q : IntervalQuaternion) → StandsQuaternion q Q → (Pose-enclose_rotation m Q).refusal ≡ 0
    → Pairwise Stands (LeanRows-list (linear (rotation q))) (IntervalMatrix-list (Pose-enclose_rotation m Q).matrix)
unfolding Pose-enclose_rotation Program-lean Expr-lean_all Expr-lean Lean-of le of_bits fits rotation diagonal twice_sum twice_difference
rotation-list m q Q s h = stage-lean rotation_stage m (IntervalQuaternion-list Q) (quaternion_ranges q) s tt tt h

pub rotation-lean : (m : ℕ) (q Q : IntervalQuaternion) → StandsQuaternion q Q → (Pose-enclose_rotation m Q).refusal ≡ 0
    → StandsRows (linear (rotation q)) (Pose-enclose_rotation m Q).matrix
rotation-lean m q Q s h =
    let (a, (b, (c, (d, (e, (f, (g, (i, (j, (k, (l, (n, _)))))))))))) = rotation-list m q Q s h in
    record { r0 = (a, (b, (c, (d, tt)))); r1 = (e, (f, (g, (i, tt)))); r2 = (j, (k, (l, (n, tt)))) }

-- ---- products
mul-row-lean : (m : ℕ) (R : IntervalRow) (M : IntervalMatrix) (ρ : List Lean) (B : LeanRows) → Pairwise Stands ρ (IntervalRow-list R) → StandsRows B M
    → (Pose-enclose_mul_row m R M).refusal ≡ 0
    → Pairwise Stands (Program-lean (ρ ++ LeanRows-list B) mul_row_stage) (IntervalRow-list (Pose-enclose_mul_row m R M).row)
unfolding Pose-enclose_mul_row of_bits fits
mul-row-lean m R M ρ B r s h =
    stage-lean mul_row_stage m (IntervalRow-list R ++ IntervalMatrix-list M) (ρ ++ LeanRows-list B)
    (pairwise_append Stands ρ (LeanRows-list B) (IntervalRow-list R) (IntervalMatrix-list M) r (rows-stand s)) tt tt h

abbrev pub LeanRows-times : LeanRows → LeanRows → LeanRows
LeanRows-times A B = record {
  r0 = Program-lean (A.r0 ++ LeanRows-list B) mul_row_stage;
  r1 = Program-lean (A.r1 ++ LeanRows-list B) mul_row_stage;
  r2 = Program-lean (A.r2 ++ LeanRows-list B) mul_row_stage;
}

pub mul-lean : (m : ℕ) (M N : IntervalMatrix) {A B : LeanRows} → StandsRows A M → StandsRows B N → (Pose-enclose_mul m M N).refusal ≡ 0
    → StandsRows (LeanRows-times A B) (Pose-enclose_mul m M N).matrix
unfolding Pose-enclose_mul
mul-lean m M N {A} {B} s t h =
    let p = Pose-enclose_mul_row m M.r0 N in
    let q = Pose-enclose_mul_row p.refusal M.r1 N in
    let zq = mul-row-zero q.refusal M.r2 N h in
    let zp = mul-row-zero p.refusal M.r1 N zq in
    record {
      r0 = mul-row-lean m M.r0 N A.r0 B s.r0 t zp;
      r1 = mul-row-lean p.refusal M.r1 N A.r1 B s.r1 t zq;
      r2 = mul-row-lean q.refusal M.r2 N A.r2 B s.r2 t h;
    }

-- By a translation from the left, the fourth column; by a scale from the right, three terms an entry; by the identity, nothing.
pub translated-reading : (t : IntervalVector) (A : LinearPart) → LeanRows-times (translated t) (linear A) ≡ affine A t
unfolding Program-lean Expr-lean_all Expr-lean Lean-of le of_bits
translated-reading t A = refl

pub scaled-reading : (A S : LinearPart) (t : IntervalVector) → LeanRows-times (affine A t) (linear S) ≡ affine (product A S) t
unfolding Program-lean Expr-lean_all Expr-lean Lean-of le of_bits product row_by dot
scaled-reading A S t = refl

pub rigid-reading : (A : LinearPart) (t : IntervalVector) → LeanRows-times (affine A t) identity ≡ affine A t
unfolding Program-lean Expr-lean_all Expr-lean Lean-of le of_bits
rigid-reading A t = refl

-- ---- a box of points
pub point-lean : (m : ℕ) (M : IntervalMatrix) (P : IntervalVector) (A : LinearPart) (t p : IntervalVector) → StandsRows (affine A t) M → StandsVector p P
    → (Pose-enclose_transform_point m M P).refusal ≡ 0
    → StandsVector (moved_by p A t) (Pose-enclose_transform_point m M P).vector
unfolding Pose-enclose_transform_point Program-lean Expr-lean_all Expr-lean Lean-of le of_bits fits moved_by moved
point-lean m M P A t p s q h =
    stage-lean transform_point_stage m (IntervalMatrix-list M ++ IntervalVector-list P) (LeanRows-list (affine A t) ++ ranges p)
    (pairwise_append Stands (LeanRows-list (affine A t)) (ranges p) (IntervalMatrix-list M) (IntervalVector-list P) (rows-stand s) q) tt tt h
