-- What a test for finite numbers says of each: of a quaternion (`quaternion-each`), of a matrix's upper rows (`matrix-each`), and of
-- the nine entries of S (`scale-each`). So a stored matrix that passed the test encloses itself with equal ends (`stored-encloses`) and lies in itself
-- (`stored-refines`).
use Prim.Native.Nat.{ℕ}
use mathlib.Core.Bool.{Bool, ◌&&◌}
use lib.Dec.{T}
use lib.Ieee.Fits.{and_l, and_r}
use lib.Ieee.Scale.{finite}
use Rattle.matrix4x4.specs.declared.Matrix4x4.{Matrix4x4}
use Rattle.matrix4x4.specs.Rows.{Row, col, at, all, Matrix4x4-to_rows}
use Rattle.matrix4x4.specs.IsFinite.{Matrix4x4-is_finite}
use Rattle.quaternion.specs.declared.Quaternion.{Quaternion}
use Rattle.quaternion.specs.IsFinite.{Quaternion-is_finite}
use Rattle.pose_steps.specs.Pose.{Quaternion-list, entries, all_finite}
use Rattle.pose_steps.specs.Enclose.{IntervalMatrix-point}
use Rattle.pose_steps.specs.Promise.{AllFinite, FiniteScale, EnclosesMatrix, RefinesMatrix}
use Rattle.pose_steps.proofs.Rows.{points-enclose, points-refine}

four-each : (a b c d : Bool) → T (a && b && c && d) → T a × T b × T c × T d
four-each a b c d h =
    let abc = and_l (a && b && c) d h in
    let ab = and_l (a && b) c abc in
    (and_l a b ab, and_r a b ab, and_r (a && b) c abc, and_r (a && b && c) d h)

pub all-each : (p : ℕ → Bool) → T (all p) → T (p 0) × T (p 1) × T (p 2) × T (p 3)
all-each p h = four-each (p 0) (p 1) (p 2) (p 3) h

pub quaternion-each : (q : Quaternion) → T (Quaternion-is_finite q) → AllFinite (Quaternion-list q)
unfolding Quaternion-is_finite
quaternion-each q h =
    let (x, y, z, w) = four-each (finite q.v.x) (finite q.v.y) (finite q.v.z) (finite q.w) h in
    (x, (y, (z, (w, tt))))

row-each : (r : Row) → T (all (λ j. finite (col r j))) → AllFinite (entries r)
row-each r h = let (a, b, c, d) = all-each (λ j. finite (col r j)) h in (a, (b, (c, (d, tt))))

pub matrix-each : (m : Matrix4x4) → T (all_finite m) → AllFinite (entries m.r0) × AllFinite (entries m.r1) × AllFinite (entries m.r2)
unfolding Matrix4x4-is_finite
matrix-each m h =
    let (p, q, r, s) = all-each (λ i. all (λ j. finite (at (Matrix4x4-to_rows m) i j))) h in
    (row-each m.r0 p, row-each m.r1 q, row-each m.r2 r)

pub scale-each : (s : Matrix4x4) → T (all_finite s) → FiniteScale s
scale-each s h =
    let ((a, (b, (c, d))), (e, (f, (g, i))), (j, (k, (l, m)))) = matrix-each s h in
    record { r0 = (a, (b, (c, tt))); r1 = (e, (f, (g, tt))); r2 = (j, (k, (l, tt))) }

pub stored-encloses : (m : Matrix4x4) → T (all_finite m) → EnclosesMatrix (IntervalMatrix-point m) m
stored-encloses m h =
    let (p, q, r) = matrix-each m h in
    record { r0 = points-enclose (entries m.r0) p; r1 = points-enclose (entries m.r1) q; r2 = points-enclose (entries m.r2) r }

pub stored-refines : (m : Matrix4x4) → T (all_finite m) → RefinesMatrix (IntervalMatrix-point m) (IntervalMatrix-point m)
stored-refines m h =
    let (p, q, r) = matrix-each m h in
    record { r0 = points-refine (entries m.r0) p; r1 = points-refine (entries m.r1) q; r2 = points-refine (entries m.r2) r }
