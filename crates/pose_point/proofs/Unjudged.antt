-- Where the matrix, the box and what comes out without judging are finite, this is the moved box, and the number met before stands: `transform-point-unjudged`.
use mathlib.Core.Path.{◌≡◌, sym, ap, ◌∙◌}
use mathlib.Core.Bool.{Bool, true}
use Prim.Native.Nat.{ℕ}
use mathlib.Core.List.{◌++◌}
use lib.Ieee.{Float}
use lib.Ieee.Scale.{finite}
use Rattle.float32.specs.Operators.{◌⊕◌}
use Rattle.interval.specs.Contains.{Finite}
use Rattle.interval_unjudged.specs.means.Unjudged.{Expr-unjudged_all, Program-unjudged, All}
use Rattle.interval_unjudged.proofs.Unjudged.{all_append, program-unjudged}
use Rattle.pose_steps.specs.declared.IntervalVector.{IntervalVector}
use Rattle.pose_steps.specs.declared.IntervalMatrix.{IntervalMatrix}
use Rattle.pose_steps.specs.Stages.{transform_point_stage}
use Rattle.pose_steps.specs.Enclose.{IntervalVector-list, IntervalMatrix-list, JudgedVector-of, Pose-enclose_transform_point}
use Rattle.pose_ends.specs.means.Ends.{IntervalVector-ends_sum, IntervalMatrix-ends_sum}
use Rattle.pose_ends.proofs.Finite.{three-finite, vector-finite, rows-finite, matrix-finite}
use Rattle.pose_point.specs.means.Unjudged.{Pose-unjudged_transform_point}

transform-point-unjudged : (m : ℕ) (a : IntervalMatrix) (p : IntervalVector) → All Finite (IntervalMatrix-list a) → All Finite (IntervalVector-list p)
    → All Finite (IntervalVector-list (Pose-unjudged_transform_point a p))
    → record { vector = Pose-unjudged_transform_point a p; refusal = m } ≡ Pose-enclose_transform_point m a p
unfolding Pose-enclose_transform_point Pose-unjudged_transform_point Program-unjudged Expr-unjudged_all
transform-point-unjudged m a p fa fp f =
    let σ = IntervalMatrix-list a ++ IntervalVector-list p in
    sym (ap JudgedVector-of (program-unjudged transform_point_stage m σ (all_append Finite (IntervalMatrix-list a) (IntervalVector-list p) fa fp) tt f tt))

-- As the code has it: t is the test of the sum.
pub transform-point-tested : (m : ℕ) (a : IntervalMatrix) (p : IntervalVector) {v : IntervalVector} {A B C : Float} {t : Bool}
    → v ≡ Pose-unjudged_transform_point a p
    → A ≡ IntervalMatrix-ends_sum a → B ≡ IntervalVector-ends_sum p → C ≡ IntervalVector-ends_sum v → t ≡ finite (A ⊕ B ⊕ C) → t ≡ true
    → record { vector = v; refusal = m } ≡ Pose-enclose_transform_point m a p
transform-point-tested m a p ev ea eb ec et h =
    let q = Pose-unjudged_transform_point a p in
    let f = three-finite (IntervalMatrix-ends_sum a) (IntervalVector-ends_sum p) (IntervalVector-ends_sum q) (rw (← ev, ← ea, ← eb, ← ec, sym et ∙ h) tt) in
    rw ev (transform-point-unjudged m a p (matrix-finite a (rows-finite a f.0)) (vector-finite p f.1.0) (vector-finite q f.1.1))
