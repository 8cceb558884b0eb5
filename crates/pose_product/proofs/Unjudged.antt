-- Where the factors and the rows worked without judging are finite, these rows are the product, and the number met before stands: `mul-unjudged`.
use mathlib.Core.Path.{◌≡◌, sym, ap, ◌∙◌}
use mathlib.Core.Bool.{Bool, true}
use Prim.Native.Nat.{ℕ}
use mathlib.Core.List.{◌++◌}
use lib.Dec.{T}
use lib.Ieee.{Float, of_bits}
use lib.Ieee.Scale.{finite}
use Rattle.float32.specs.Operators.{◌⊕◌}
use Rattle.interval.specs.Contains.{Finite}
use Rattle.interval.specs.Interval.{Interval-point}
use Rattle.float32.specs.Operators as float
use Rattle.pose_steps.specs.matrix4x4.Rows.{positive_zero}
use Rattle.interval_unjudged.specs.means.Unjudged.{Expr-unjudged, Expr-unjudged_all, Program-unjudged, All}
use Rattle.interval_unjudged.proofs.Unjudged.{all_append, program-unjudged}
use Rattle.pose_steps.specs.declared.IntervalRow.{IntervalRow}
use Rattle.pose_steps.specs.declared.IntervalMatrix.{IntervalMatrix}
use Rattle.pose_steps.specs.declared.IntervalVector.{IntervalVector}
use Rattle.pose_steps.specs.Judged.{JudgedRow}
use Rattle.pose_steps.specs.Judged.{JudgedMatrix}
use Rattle.pose_steps.specs.Stages.{mul_row_stage}
use Rattle.pose_steps.specs.Enclose.{IntervalRow-list, IntervalMatrix-list, JudgedRow-of, Pose-enclose_mul_row, Pose-enclose_mul, IntervalMatrix-translation}
use Rattle.pose_ends.specs.means.Ends.{IntervalMatrix-ends_sum}
use Rattle.pose_ends.proofs.Finite.{three-finite, FiniteRows, rows-finite, matrix-finite}
use Rattle.pose_product.specs.means.Unjudged.{Pose-unjudged_mul_row, Pose-unjudged_mul, IntervalVector-times, Pose-translated_column}

row-unjudged : (m : ℕ) (a : IntervalRow) (b : IntervalMatrix) → All Finite (IntervalRow-list a) → All Finite (IntervalMatrix-list b)
    → All Finite (IntervalRow-list (Pose-unjudged_mul_row a b)) → Pose-enclose_mul_row m a b ≡ record { row = Pose-unjudged_mul_row a b; refusal = m }
unfolding Pose-enclose_mul_row Pose-unjudged_mul_row Program-unjudged Expr-unjudged_all of_bits
row-unjudged m a b fa fb f =
    let σ = IntervalRow-list a ++ IntervalMatrix-list b in
    ap JudgedRow-of (program-unjudged mul_row_stage m σ (all_append Finite (IntervalRow-list a) (IntervalMatrix-list b) fa fb) tt f tt)

pub mul-unjudged : (m : ℕ) (a b : IntervalMatrix)
    → T (finite (IntervalMatrix-ends_sum a ⊕ IntervalMatrix-ends_sum b ⊕ IntervalMatrix-ends_sum (Pose-unjudged_mul a b)))
    → record { matrix = Pose-unjudged_mul a b; refusal = m } ≡ Pose-enclose_mul m a b
unfolding Pose-enclose_mul
mul-unjudged m a b h =
    let s = three-finite (IntervalMatrix-ends_sum a) (IntervalMatrix-ends_sum b) (IntervalMatrix-ends_sum (Pose-unjudged_mul a b)) h in
    let fa = rows-finite a s.0 in
    let fb = matrix-finite b (rows-finite b s.1.0) in
    let f = rows-finite (Pose-unjudged_mul a b) s.1.1 in
    rw (row-unjudged m a.r0 b fa.r0 fb f.r0, row-unjudged m a.r1 b fa.r1 fb f.r1, row-unjudged m a.r2 b fa.r2 fb f.r2)

-- As the code has it: t is the test of the sum.
pub mul-tested : (m : ℕ) (a b : IntervalMatrix) {r0 r1 r2 : IntervalRow} {A B C : Float} {t : Bool}
    → r0 ≡ Pose-unjudged_mul_row a.r0 b → r1 ≡ Pose-unjudged_mul_row a.r1 b → r2 ≡ Pose-unjudged_mul_row a.r2 b
    → A ≡ IntervalMatrix-ends_sum a → B ≡ IntervalMatrix-ends_sum b → C ≡ IntervalMatrix-ends_sum (record { r0 = r0; r1 = r1; r2 = r2 })
    → t ≡ finite (A ⊕ B ⊕ C) → t ≡ true
    → record { matrix = record { r0 = r0; r1 = r1; r2 = r2 }; refusal = m } ≡ Pose-enclose_mul m a b
mul-tested m a b e0 e1 e2 ea eb ec et h = rw (e0, e1, e2) (mul-unjudged m a b (rw (← e0, ← e1, ← e2, ← ea, ← eb, ← ec, sym et ∙ h) tt))

-- ---- the product of a translation, column by column
pub translated-rows : (v : IntervalVector) (b : IntervalMatrix) {l0 l1 e0 e1 e2 e3 : IntervalVector}
    → l0 ≡ IntervalVector-times v (Interval-point positive_zero) → l1 ≡ IntervalVector-times v (Interval-point float.one)
    → e0 ≡ Pose-translated_column l0 b.r0.c0 b.r1.c0 b.r2.c0
    → e1 ≡ Pose-translated_column l0 b.r0.c1 b.r1.c1 b.r2.c1
    → e2 ≡ Pose-translated_column l0 b.r0.c2 b.r1.c2 b.r2.c2
    → e3 ≡ Pose-translated_column l1 b.r0.c3 b.r1.c3 b.r2.c3
    → record {
      r0 = record { c0 = e0.x; c1 = e1.x; c2 = e2.x; c3 = e3.x };
      r1 = record { c0 = e0.y; c1 = e1.y; c2 = e2.y; c3 = e3.y };
      r2 = record { c0 = e0.z; c1 = e1.z; c2 = e2.z; c3 = e3.z };
    }
    ≡ Pose-unjudged_mul (IntervalMatrix-translation v) b
unfolding IntervalVector-times Pose-translated_column Pose-unjudged_mul_row Program-unjudged Expr-unjudged_all Expr-unjudged
translated-rows v b f0 f1 h0 h1 h2 h3 = rw (h0, h1, h2, h3, f0, f1)

pub translate-tested : (m : ℕ) (v : IntervalVector) (b : IntervalMatrix) {a matrix : IntervalMatrix} {A B C : Float} {t : Bool}
    → matrix ≡ Pose-unjudged_mul (IntervalMatrix-translation v) b → a ≡ IntervalMatrix-translation v
    → A ≡ IntervalMatrix-ends_sum a → B ≡ IntervalMatrix-ends_sum b → C ≡ IntervalMatrix-ends_sum matrix
    → t ≡ finite (A ⊕ B ⊕ C) → t ≡ true
    → record { matrix = matrix; refusal = m } ≡ Pose-enclose_mul m (IntervalMatrix-translation v) b
translate-tested m v b e e' ea eb ec et h = rw (e) (mul-unjudged m (IntervalMatrix-translation v) b (rw (← e, ← e', ← ea, ← eb, ← ec, sym et ∙ h) tt))
