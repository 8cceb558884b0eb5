-- Constants, rows and matrices: what holds entry by entry of a matrix's rows holds of its list, and back (`encloses-list`,
-- `list-encloses`, `refines-list`, `list-refines`), a number with equal ends encloses itself and lies in itself (`points-enclose`,
-- `points-refine`), and a matrix that is enclosed is finite (`matrix-finite`).
use mathlib.Core.Path.{◌≡◌, refl}
use Prim.Native.Nat.{ℕ}
use native.Mathlib.Omega.{arith}
use mathlib.Core.Bool.{Bool, true, false, ◌&&◌}
use mathlib.Core.List.{List, [], ◌∷◌, ◌++◌, map}
use lib.ListN.{length, length-append}
use lib.Dec.{T}
use lib.Ieee.{Float}
use lib.Ieee.Fits.{and_i}
use lib.Ieee.Scale.{finite}
use Rattle.matrix4x4.specs.float32.Operators.{one}
use Rattle.matrix4x4.proofs.float32.Constants.{zero-finite, one-finite}
use Rattle.quaternion.specs.declared.Quaternion.{Quaternion}
use Rattle.matrix4x4.specs.declared.Matrix4x4.{Matrix4x4}
use Rattle.matrix4x4.specs.Rows.{Row, col, at, all, Matrix4x4-to_rows, positive_zero}
use Rattle.matrix4x4.specs.IsFinite.{Matrix4x4-is_finite}
use Rattle.matrix4x4.specs.IsAffine.{bottom_row}
use Rattle.interval.specs.declared.Interval.{Interval}
use Rattle.interval.specs.Interval.{Interval-point}
use Rattle.interval.specs.Contains.{Encloses, Refines}
use Rattle.interval.proofs.Contains.{contains-finite, point-encloses, point-refines}
use Rattle.formula.specs.Promise.{Pairwise}
use Rattle.formula.proofs.Pairwise.{pairwise_append}
use Rattle.pose_steps.specs.declared.IntervalMatrix.{IntervalMatrix}
use Rattle.pose_steps.specs.Pose.{three, entries, Matrix4x4-list, Pose-scale, Matrix4x4-identity, Pose-scale_by, Pose-rotation, Pose-mul, all_finite}
use Rattle.pose_steps.specs.Enclose.{IntervalRow-list, IntervalMatrix-list, IntervalMatrix-point}
use Rattle.pose_steps.specs.Promise.{AllFinite, FiniteScale, EnclosesScale, RefinesScale, EnclosesMatrix, RefinesMatrix}

-- ---- constants
pub points-enclose : (l : List Float) → AllFinite l → Pairwise Encloses (map Interval-point l) l
points-enclose [] f = tt
points-enclose (x ∷ l) f = (point-encloses x f.0, points-enclose l f.1)

pub points-refine : (l : List Float) → AllFinite l → Pairwise Refines (map Interval-point l) (map Interval-point l)
points-refine [] f = tt
points-refine (x ∷ l) f = (point-refines x f.0, points-refine l f.1)

pub scale-encloses : {s : Matrix4x4} → FiniteScale s → EnclosesScale (IntervalMatrix-point s) s
scale-encloses {s} f =
    record { r0 = points-enclose (three s.r0) f.r0; r1 = points-enclose (three s.r1) f.r1; r2 = points-enclose (three s.r2) f.r2 }

pub scale-refines : {s : Matrix4x4} → FiniteScale s → RefinesScale (IntervalMatrix-point s) (IntervalMatrix-point s)
scale-refines {s} f =
    record { r0 = points-refine (three s.r0) f.r0; r1 = points-refine (three s.r1) f.r1; r2 = points-refine (three s.r2) f.r2 }

-- ---- rows
module _ {A B : Type 0} (R : A → B → Type 0) (p q r : List A) (p' q' r' : List B) where
  pub rows-list : Pairwise R p p' → Pairwise R q q' → Pairwise R r r' → Pairwise R (p ++ q ++ r) (p' ++ q' ++ r')
  rows-list a b c = pairwise_append R (p ++ q) r (p' ++ q') r' (pairwise_append R p q p' q' a b) c

split : {A B : Type 0} (R : A → B → Type 0) (p q : List A) (p' q' : List B)
    → length p ≡ length p' → Pairwise R (p ++ q) (p' ++ q') → Pairwise R p p' × Pairwise R q q'
split R [] q [] q' e h = (tt, h)
split R [] q (y ∷ p') q' e h = absurd (omega arith)
split R (x ∷ p) q [] q' e h = absurd (omega arith)
split R (x ∷ p) q (y ∷ p') q' e h = let (i, j) = split R p q p' q' (omega arith) h.1 in ((h.0, i), j)

pub list-rows : {A B : Type 0} (R : A → B → Type 0) (p q r : List A) (p' q' r' : List B) → length p ≡ length p' → length q ≡ length q'
    → Pairwise R (p ++ q ++ r) (p' ++ q' ++ r') → Pairwise R p p' × Pairwise R q q' × Pairwise R r r'
list-rows R p q r p' q' r' e f h =
    let (i, j) = split R (p ++ q) r (p' ++ q') r' (rw (length-append p q, length-append p' q', e, f)) h in
    let (k, l) = split R p q p' q' e i in
    (k, l, j)

pub encloses-list : {M : IntervalMatrix} {m : Matrix4x4} → EnclosesMatrix M m → Pairwise Encloses (IntervalMatrix-list M) (Matrix4x4-list m)
encloses-list {M} {m} e =
    rows-list Encloses (IntervalRow-list M.r0) (IntervalRow-list M.r1) (IntervalRow-list M.r2)
    (entries m.r0) (entries m.r1) (entries m.r2) e.r0 e.r1 e.r2

pub list-encloses : (M : IntervalMatrix) (m : Matrix4x4) → Pairwise Encloses (IntervalMatrix-list M) (Matrix4x4-list m) → EnclosesMatrix M m
list-encloses M m e =
    let (a, b, c) = list-rows Encloses (IntervalRow-list M.r0) (IntervalRow-list M.r1)
    (IntervalRow-list M.r2) (entries m.r0) (entries m.r1) (entries m.r2) refl refl e in
    record { r0 = a; r1 = b; r2 = c }

pub refines-list : {M M' : IntervalMatrix} → RefinesMatrix M M' → Pairwise Refines (IntervalMatrix-list M) (IntervalMatrix-list M')
refines-list {M} {M'} e =
    rows-list Refines (IntervalRow-list M.r0) (IntervalRow-list M.r1) (IntervalRow-list M.r2)
    (IntervalRow-list M'.r0) (IntervalRow-list M'.r1) (IntervalRow-list M'.r2) e.r0 e.r1 e.r2

pub list-refines : (M M' : IntervalMatrix) → Pairwise Refines (IntervalMatrix-list M) (IntervalMatrix-list M') → RefinesMatrix M M'
list-refines M M' e =
    let (a, b, c) = list-rows Refines (IntervalRow-list M.r0) (IntervalRow-list M.r1) (IntervalRow-list M.r2)
    (IntervalRow-list M'.r0) (IntervalRow-list M'.r1) (IntervalRow-list M'.r2) refl refl e in
    record { r0 = a; r1 = b; r2 = c }

-- ---- finite
encloses-finite : {X : Interval} {x : Float} → Encloses X x → T (finite x)
encloses-finite e = contains-finite e.finite e.contains

pub enclosed-finite : (σ : List Interval) (l : List Float) → Pairwise Encloses σ l → AllFinite l
enclosed-finite [] [] e = tt
enclosed-finite [] (x ∷ l) e = absurd e
enclosed-finite (X ∷ σ) [] e = absurd e
enclosed-finite (X ∷ σ) (x ∷ l) e = (encloses-finite e.0, enclosed-finite σ l e.1)

all_of : (p : ℕ → Bool) → T (p 0) → T (p 1) → T (p 2) → T (p 3) → T (all p)
all_of p a b c d = and_i (p 0 && p 1 && p 2) (p 3) (and_i (p 0 && p 1) (p 2) (and_i (p 0) (p 1) a b) c) d

row-finite : (r : Row) → AllFinite (entries r) → T (all (λ j. finite (col r j)))
row-finite r (a, (b, (c, (d, e)))) = all_of (λ j. finite (col r j)) a b c d

pub matrix-finite : {M : IntervalMatrix} (m : Matrix4x4) → m.r3 ≡ bottom_row → EnclosesMatrix M m → T (all_finite m)
unfolding Matrix4x4-is_finite
matrix-finite {M} m b e =
    all_of (λ i. all (λ j. finite (at (Matrix4x4-to_rows m) i j)))
    (row-finite m.r0 (enclosed-finite (IntervalRow-list M.r0) (entries m.r0) e.r0))
    (row-finite m.r1 (enclosed-finite (IntervalRow-list M.r1) (entries m.r1) e.r1))
    (row-finite m.r2 (enclosed-finite (IntervalRow-list M.r2) (entries m.r2) e.r2))
    (row-finite m.r3 (rw b (zero-finite, (zero-finite, (zero-finite, (one-finite, tt))))))

-- ---- the bottom rows are constants
pub scale-bottom : (s0 s1 : Matrix4x4) (dt : Float) → (Pose-scale s0 s1 dt).r3 ≡ bottom_row
unfolding Pose-scale
scale-bottom s0 s1 dt = refl

pub scale-by-bottom : (k : Bool) (s0 s1 : Matrix4x4) (dt : Float) → (Pose-scale_by k s0 s1 dt).r3 ≡ bottom_row
unfolding Pose-scale_by
scale-by-bottom true s0 s1 dt = refl
scale-by-bottom false s0 s1 dt = scale-bottom s0 s1 dt

-- The identity encloses itself with equal ends, and lies in itself.
pub identity-encloses : EnclosesMatrix (IntervalMatrix-point Matrix4x4-identity) Matrix4x4-identity
identity-encloses =
    let i = point-encloses positive_zero zero-finite in
    let j = point-encloses one one-finite in
    record { r0 = (j, (i, (i, (i, tt)))); r1 = (i, (j, (i, (i, tt)))); r2 = (i, (i, (j, (i, tt)))) }

pub identity-refines : RefinesMatrix (IntervalMatrix-point Matrix4x4-identity) (IntervalMatrix-point Matrix4x4-identity)
identity-refines =
    let i = point-refines positive_zero zero-finite in
    let j = point-refines one one-finite in
    record { r0 = (j, (i, (i, (i, tt)))); r1 = (i, (j, (i, (i, tt)))); r2 = (i, (i, (j, (i, tt)))) }

pub rotation-bottom : (q : Quaternion) → (Pose-rotation q).r3 ≡ bottom_row
unfolding Pose-rotation
rotation-bottom q = refl

pub mul-bottom : (a b : Matrix4x4) → (Pose-mul a b).r3 ≡ bottom_row
unfolding Pose-mul
mul-bottom a b = refl
