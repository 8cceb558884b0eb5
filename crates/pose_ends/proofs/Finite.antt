-- Where the sum of all ends is finite, every interval is: `vector-finite`, `quaternion-finite`, `row-finite`, `matrix-finite`.
use mathlib.Core.List.{◌++◌}
use lib.Dec.{T}
use lib.Ieee.{Float}
use lib.Ieee.Scale.{finite}
use Rattle.interval_unjudged.specs.float32.Operators.{◌⊕◌}
use Rattle.interval_unjudged.specs.interval.declared.Interval.{Interval}
use Rattle.interval_unjudged.specs.interval.Contains.{Finite}
use Rattle.interval_unjudged.specs.means.Ordered.{Interval-ends_sum}
use Rattle.interval_unjudged.specs.means.Unjudged.{All}
use Rattle.interval_unjudged.proofs.Finite.{add-finite, ends-finite}
use Rattle.interval_unjudged.proofs.Unjudged.{all_append}
use Rattle.pose_steps.specs.declared.IntervalVector.{IntervalVector}
use Rattle.pose_steps.specs.declared.IntervalQuaternion.{IntervalQuaternion}
use Rattle.pose_steps.specs.declared.IntervalRow.{IntervalRow}
use Rattle.pose_steps.specs.declared.IntervalMatrix.{IntervalMatrix}
use Rattle.pose_steps.specs.Enclose.{IntervalVector-list, IntervalQuaternion-list, IntervalRow-list, IntervalMatrix-list}
use Rattle.pose_ends.specs.means.Ends.{IntervalVector-ends_sum, IntervalQuaternion-ends_sum, IntervalRow-ends_sum, IntervalMatrix-ends_sum}

-- ---- sums of three, and of the ends of two and four intervals
pub three-finite : (x y z : Float) → T (finite (x ⊕ y ⊕ z)) → T (finite x) × (T (finite y) × T (finite z))
three-finite x y z h =
    let f = add-finite (x ⊕ y) z h in
    let g = add-finite x y f.0 in
    (g.0, (g.1, f.1))

two-intervals : (X Y : Interval) → T (finite (Interval-ends_sum X ⊕ Interval-ends_sum Y)) → Finite X × Finite Y
two-intervals X Y h = let f = add-finite (Interval-ends_sum X) (Interval-ends_sum Y) h in (ends-finite X f.0, ends-finite Y f.1)

four-intervals : (X Y Z W : Interval) → T (finite (Interval-ends_sum X ⊕ Interval-ends_sum Y ⊕ (Interval-ends_sum Z ⊕ Interval-ends_sum W)))
    → Finite X × (Finite Y × (Finite Z × (Finite W × Unit {0})))
four-intervals X Y Z W h =
    let f = add-finite (Interval-ends_sum X ⊕ Interval-ends_sum Y) (Interval-ends_sum Z ⊕ Interval-ends_sum W) h in
    let p = two-intervals X Y f.0 in
    let q = two-intervals Z W f.1 in
    (p.0, (p.1, (q.0, (q.1, tt))))

-- ---- structs
pub vector-finite : (v : IntervalVector) → T (finite (IntervalVector-ends_sum v)) → All Finite (IntervalVector-list v)
unfolding IntervalVector-ends_sum
vector-finite v h =
    let f = three-finite (Interval-ends_sum v.x) (Interval-ends_sum v.y) (Interval-ends_sum v.z) h in
    (ends-finite v.x f.0, (ends-finite v.y f.1.0, (ends-finite v.z f.1.1, tt)))

pub quaternion-finite : (q : IntervalQuaternion) → T (finite (IntervalQuaternion-ends_sum q)) → All Finite (IntervalQuaternion-list q)
unfolding IntervalQuaternion-ends_sum
quaternion-finite q h = four-intervals q.x q.y q.z q.w h

pub row-finite : (a : IntervalRow) → T (finite (IntervalRow-ends_sum a)) → All Finite (IntervalRow-list a)
unfolding IntervalRow-ends_sum
row-finite a h = four-intervals a.c0 a.c1 a.c2 a.c3 h

-- The rows of a matrix, each finite.
pub record FiniteRows (m : IntervalMatrix) : Type 0 where
  pub r0 : All Finite (IntervalRow-list m.r0)
  pub r1 : All Finite (IntervalRow-list m.r1)
  pub r2 : All Finite (IntervalRow-list m.r2)

pub rows-finite : (m : IntervalMatrix) → T (finite (IntervalMatrix-ends_sum m)) → FiniteRows m
unfolding IntervalMatrix-ends_sum
rows-finite m h =
    let f = three-finite (IntervalRow-ends_sum m.r0) (IntervalRow-ends_sum m.r1) (IntervalRow-ends_sum m.r2) h in
    record { r0 = row-finite m.r0 f.0; r1 = row-finite m.r1 f.1.0; r2 = row-finite m.r2 f.1.1 }

pub matrix-finite : (m : IntervalMatrix) → FiniteRows m → All Finite (IntervalMatrix-list m)
matrix-finite m f =
    all_append Finite (IntervalRow-list m.r0 ++ IntervalRow-list m.r1) (IntervalRow-list m.r2)
    (all_append Finite (IntervalRow-list m.r0) (IntervalRow-list m.r1) f.r0 f.r1) f.r2
