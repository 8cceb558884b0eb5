-- A stored matrix over a box of points, by interval steps, a row at a time. Each end of a row's interval is the coordinate that some corner
-- of the box is moved to (`row-picks`), since a product with a constant is least and greatest at the ends. So the intervals lie in every
-- box that holds the moved corners (`rows-subset`), and nothing is refused where these are finite (`rows-accepted`), since a finite sum has
-- finite terms (`add-operands` of `interval`). The number is 0 or 5 (`rows-number`). Rests on `min-picks` and `max-picks` of `float32`.
use mathlib.Core.Path.{◌≡◌, refl, sym, subst}
use mathlib.Core.Logic.{inl, inr}
use mathlib.Core.Bool.{Bool, true, false, cond, ◌&&◌}
use mathlib.Core.List.{◌++◌}
use Prim.Native.Nat.{ℕ}
use lib.Dec.{T}
use lib.Ieee.{Float}
use lib.Ieee.Scale.{finite}
use Rattle.pose_steps.proofs.refusal.First.{zero-first, first-keeps}
use Rattle.bounds_query.specs.rounding.Order.{◌≼◌}
use Rattle.bounds_query.specs.float32.Operators.{◌⊕◌, ◌⊗◌}
use Rattle.bounds_query.proofs.float32.MinMax.{min-picks, max-picks}
use Rattle.bounds_query.specs.matrix4x4.Rows.{Row, col}
use Rattle.bounds_query.specs.matrix4x4.declared.Matrix4x4.{Matrix4x4}
use Rattle.bounds_query.specs.bounds3.declared.Point3f.{Point3f}
use Rattle.bounds_query.specs.bounds3.declared.Bounds3f.{Bounds3f}
use Rattle.bounds_query.specs.bounds3.Finite as point
use Rattle.bounds_query.specs.bounds3.Inside.{Inside, Subset}
use Rattle.bounds_query.specs.transform.TransformPoint.{mul_point}
use Rattle.pose_steps.specs.interval.declared.Interval.{Interval}
use Rattle.pose_steps.specs.interval.Judged.{Judged}
use Rattle.pose_steps.specs.interval.Contains.{Finite}
use Rattle.pose_steps.specs.interval.Interval.{Interval-point, Interval-new, Interval-hull, Interval-of_four}
use Rattle.pose_steps.specs.interval.Enclosure.{not_finite, Interval-add_enclosure, Interval-mul_enclosure, Judged-judge, Judged-add_enclosure, Judged-mul_enclosure}
use Rattle.pose_steps.proofs.interval.Finite.{add-operands}
use Rattle.pose_steps.proofs.interval.Refusal.{finite-accepted}
use Rattle.pose_steps.specs.formula.Enclose.{Expr-enclose, Expr-enclose_all, Program-enclose}
use Rattle.pose_steps.specs.declared.IntervalVector.{IntervalVector}
use Rattle.pose_steps.specs.Judged.{JudgedVector}
use Rattle.pose_steps.specs.Stages.{row, vector, moved}
use Rattle.pose_steps.specs.Pose.{Pose-transform_point}
use Rattle.pose_steps.specs.Enclose.{IntervalRow-list, IntervalRow-point, IntervalVector-list}
use Rattle.pose_steps.specs.Enclose.{IntervalVector-bounds, IntervalMatrix-point, Pose-enclose_transform_point}
use Rattle.stored_box.specs.EnclosePoints.{StoredNumber}

-- The high end where e is true.
abbrev pub end : Bool → Interval → Float
end true X = X.high
end false X = X.low

pub end-picks : (P : Float → Type 0) (X : Interval) → P X.low → P X.high → (e : Bool) → P (end e X)
end-picks P X l h true = h
end-picks P X l h false = l

-- The corner of a box at the ends i of x, j of y and k of z.
abbrev pub corner : IntervalVector → Bool → Bool → Bool → Point3f
corner B i j k = record { x = end i B.x; y = end j B.y; z = end k B.z }

-- The interval times a number.
abbrev scaled : Interval → Float → Interval
scaled X c = Interval-mul_enclosure X (Interval-point c)

-- One coordinate of the points of a box, moved: the formula of `transform_point` over one row.
abbrev enclose_row : ℕ → Row → IntervalVector → Judged
enclose_row n r B = Expr-enclose n (IntervalRow-list (IntervalRow-point r) ++ IntervalVector-list B) (moved (row 0) (vector 4))

-- ---- the ends are the values at corners
scaled-picks : (P : Float → Type 0) (X : Interval) (c : Float) → ((i : Bool) → P (end i X ⊗ c)) → (e : Bool) → P (end e (scaled X c))
unfolding Interval-mul_enclosure Interval-of_four Interval-hull Interval-new
scaled-picks P X c h false = let p = min-picks P (X.low ⊗ c) (X.high ⊗ c) (h false) (h true) in min-picks P _ _ p p
scaled-picks P X c h true = let p = max-picks P (X.low ⊗ c) (X.high ⊗ c) (h false) (h true) in max-picks P _ _ p p

module _ (n : ℕ) (r : Row) (B : IntervalVector) where
  row-end : (e : Bool)
      → end e (enclose_row n r B).interval ≡ end e (scaled B.x (col r 0)) ⊕ end e (scaled B.y (col r 1)) ⊕ end e (scaled B.z (col r 2)) ⊕ col r 3
  unfolding Expr-enclose Judged-add_enclosure Judged-mul_enclosure Judged-judge Interval-add_enclosure
  row-end true = refl
  row-end false = refl

  row-picks : (P : Float → Type 0) → ((i j k : Bool) → P (mul_point r (corner B i j k))) → (e : Bool) → P (end e (enclose_row n r B).interval)
  row-picks P h e =
      let Y = end e (scaled B.y (col r 1)) in
      let Z = end e (scaled B.z (col r 2)) in
      let w = col r 3 in
      subst P (sym (row-end e))
      (scaled-picks (λ u. P (u ⊕ Y ⊕ Z ⊕ w)) B.x (col r 0)
      (λ i.
      let x = end i B.x ⊗ col r 0 in
      scaled-picks (λ u. P (x ⊕ u ⊕ Z ⊕ w)) B.y (col r 1)
      (λ j.
      let y = end j B.y ⊗ col r 1 in
      scaled-picks (λ u. P (x ⊕ y ⊕ u ⊕ w)) B.z (col r 2) (λ k. h i j k) e)
      e)
      e)

  row-between : {l h : Float} → ((i j k : Bool) → (l ≼ mul_point r (corner B i j k)) × (mul_point r (corner B i j k) ≼ h))
      → (l ≼ (enclose_row n r B).interval.low) × ((enclose_row n r B).interval.high ≼ h)
  row-between {l} {h} m = (row-picks (λ v. l ≼ v) (λ i j k. (m i j k).0) false, row-picks (λ v. v ≼ h) (λ i j k. (m i j k).1) true)

-- ---- nothing is refused on the way to a finite interval
judge-accepted : (n : ℕ) (X : Interval) → n ≡ 0 → Finite X → (Judged-judge n X).refusal ≡ 0
unfolding Judged-judge
judge-accepted n X z f = zero-first n (not_finite X) z (finite-accepted X f)

judge-number : (n : ℕ) (X : Interval) → StoredNumber n → StoredNumber (Judged-judge n X).refusal
unfolding Judged-judge not_finite
judge-number n X i = first-keeps StoredNumber n (not_finite X) i (go (finite X.low && finite X.high))
  where
    go : (b : Bool) → StoredNumber (cond b 0 5)
    go true = inl refl
    go false = inr refl

module _ (n : ℕ) (r : Row) (B : IntervalVector) where
  row-accepted : n ≡ 0 → Finite (enclose_row n r B).interval → (enclose_row n r B).refusal ≡ 0
  unfolding Expr-enclose Judged-add_enclosure Judged-mul_enclosure Judged-judge
  row-accepted z f =
      let P = scaled B.x (col r 0) in
      let Q = scaled B.y (col r 1) in
      let R = Interval-add_enclosure P Q in
      let S = scaled B.z (col r 2) in
      let U = Interval-add_enclosure R S in
      let (u, w) = add-operands U (Interval-point (col r 3)) f in
      let (t, s) = add-operands R S u in
      let (p, q) = add-operands P Q t in
      judge-accepted _ _ (judge-accepted _ _ (judge-accepted _ _ (judge-accepted _ _ (judge-accepted _ _ (judge-accepted n P z p) q) t) s) u) f

  row_number : StoredNumber n → StoredNumber (enclose_row n r B).refusal
  unfolding Expr-enclose Judged-add_enclosure Judged-mul_enclosure
  row_number i = judge-number _ _ (judge-number _ _ (judge-number _ _ (judge-number _ _ (judge-number _ _ (judge-number n _ i)))))

  row-finite : ((i j k : Bool) → T (finite (mul_point r (corner B i j k)))) → Finite (enclose_row n r B).interval
  row-finite h = let F : Float → Type 0 = λ v. T (finite v) in record { low = row-picks n r B F h false; high = row-picks n r B F h true }

-- ---- three rows in turn, the number handed from row to row
abbrev enclose_rows : ℕ → Matrix4x4 → IntervalVector → JudgedVector
enclose_rows n m B =
    let p = enclose_row n m.r0 B in
    let q = enclose_row p.refusal m.r1 B in
    let r = enclose_row q.refusal m.r2 B in
    record { vector = record { x = p.interval; y = q.interval; z = r.interval }; refusal = r.refusal }

rows_same : (n : ℕ) (m : Matrix4x4) (B : IntervalVector) → Pose-enclose_transform_point n (IntervalMatrix-point m) B ≡ enclose_rows n m B
unfolding Pose-enclose_transform_point Program-enclose Expr-enclose_all Expr-enclose
rows_same n m B = refl

module _ (n : ℕ) (m : Matrix4x4) (B : IntervalVector) where
  pub rows-subset : (c : Bounds3f) → ((i j k : Bool) → Inside c (Pose-transform_point m (corner B i j k)))
      → Subset (IntervalVector-bounds (Pose-enclose_transform_point n (IntervalMatrix-point m) B).vector) c
  unfolding Pose-transform_point
  rows-subset c h =
      let p = enclose_row n m.r0 B in
      let q = enclose_row p.refusal m.r1 B in
      rw (rows_same n m B)
      (record {
        x = row-between n m.r0 B (λ i j k. (h i j k).x);
        y = row-between p.refusal m.r1 B (λ i j k. (h i j k).y);
        z = row-between q.refusal m.r2 B (λ i j k. (h i j k).z);
      })

  pub rows-accepted : n ≡ 0 → ((i j k : Bool) → point.Finite (Pose-transform_point m (corner B i j k)))
      → (Pose-enclose_transform_point n (IntervalMatrix-point m) B).refusal ≡ 0
  unfolding Pose-transform_point
  rows-accepted z h =
      let p = enclose_row n m.r0 B in
      let q = enclose_row p.refusal m.r1 B in
      rw (rows_same n m B)
      (row-accepted q.refusal m.r2 B
      (row-accepted p.refusal m.r1 B
      (row-accepted n m.r0 B z (row-finite n m.r0 B (λ i j k. (h i j k).x)))
      (row-finite p.refusal m.r1 B (λ i j k. (h i j k).y)))
      (row-finite q.refusal m.r2 B (λ i j k. (h i j k).z)))

  pub rows-number : StoredNumber n → StoredNumber (Pose-enclose_transform_point n (IntervalMatrix-point m) B).refusal
  rows-number i =
      let p = enclose_row n m.r0 B in
      let q = enclose_row p.refusal m.r1 B in
      rw (rows_same n m B) (row_number q.refusal m.r2 B (row_number p.refusal m.r1 B (row_number n m.r0 B i)))
