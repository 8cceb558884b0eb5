-- Where the quaternion, its products and the matrix worked without judging are finite, this is the matrix, and the number met before stands:
-- `rotation-unjudged`. A sum of two products is then a number, and finite where twice it is (`doubled-finite`).
use mathlib.Core.Path.{◌≡◌, refl, sym, ap, ◌∙◌}
use mathlib.Core.Bool.{Bool, true}
use Prim.Native.Nat.{ℕ}
use mathlib.Core.List.{[], ◌∷◌}
use lib.Dec.{T}
use lib.Ieee.{Float, nan, inf, fin, binary32, of_bits, is_nan, mul}
use lib.Ieee.Scale.{finite}
use Rattle.float32.specs.rounding.Order.{Number}
use Rattle.float32.proofs.rounding.Order.{≼_refl, number-left, finite_number}
use Rattle.float32.proofs.rounding.Arithmetic.{add-mono, sub-mono}
use Rattle.float32.specs.Operators.{◌⊕◌, ◌⊖◌, ◌⊗◌, one, two}
use Rattle.interval.specs.declared.Interval.{Interval}
use Rattle.interval.specs.Contains.{Finite}
use Rattle.interval.specs.Interval.{Interval-point}
use Rattle.interval.specs.Enclosure.{Interval-add_enclosure, Interval-sub_enclosure}
use Rattle.interval_unjudged.specs.formula.Enclose.{enclosure}
use Rattle.interval_unjudged.specs.means.Ordered.{Interval-mul_ordered, Interval-ends_sum}
use Rattle.interval_unjudged.specs.means.Unjudged.{Expr-unjudged, Expr-unjudged_all, Program-unjudged, All}
use Rattle.interval_unjudged.proofs.Ordered.{AllFour, corners-finite, mul-number}
use Rattle.interval_unjudged.proofs.Finite.{mul-finite, sub-operands, ends-finite}
use Rattle.interval_unjudged.proofs.Unjudged.{program-unjudged}
use Rattle.pose_steps.specs.declared.IntervalQuaternion.{IntervalQuaternion}
use Rattle.pose_steps.specs.declared.IntervalMatrix.{IntervalMatrix}
use Rattle.pose_steps.specs.Stages.{rotation_stage}
use Rattle.pose_steps.specs.Enclose.{IntervalQuaternion-list, IntervalRow-list, JudgedMatrix-of, Pose-enclose_rotation}
use Rattle.pose_ends.specs.means.Ends.{IntervalQuaternion-ends_sum, IntervalMatrix-ends_sum}
use Rattle.pose_ends.proofs.Finite.{three-finite, quaternion-finite, FiniteRows, rows-finite}
use Rattle.pose_rotation.specs.declared.Products.{Products}
use Rattle.pose_rotation.specs.means.Unjudged.{Products-of, Products-list, Products-ends_sum, Pose-unjudged_rotation}

abbrev 𝟏 : Interval
𝟏 = Interval-point one

abbrev 𝟐 : Interval
𝟐 = Interval-point two

-- ---- twice an interval
double-number : (x : Float) → Number x → Number (two ⊗ x)
unfolding mul of_bits is_nan
double-number nan n = absurd n
double-number (inf s) n = tt
double-number (fin s m e) n = mul-number two (fin s m e) tt tt

-- Ends that are no NaN.
record Numbers (X : Interval) : Type 0 where
  low : Number X.low
  high : Number X.high

doubled-finite : (X : Interval) → Numbers X → Finite (Interval-mul_ordered 𝟐 X) → Finite X
unfolding Interval-mul_ordered
doubled-finite X n f =
    let l = two ⊗ X.low in
    let h = two ⊗ X.high in
    let nl = double-number X.low n.low in
    let nh = double-number X.high n.high in
    let g = corners-finite l l h h (record { first = nl; second = nl; third = nh; fourth = nh }) f in
    record { low = (mul-finite two X.low g.first).1; high = (mul-finite two X.high g.third).1 }

sum-numbers : (X Y : Interval) → Finite X → Finite Y → Numbers (Interval-add_enclosure X Y)
unfolding Interval-add_enclosure
sum-numbers X Y f g = record { low = go X.low Y.low f.low g.low; high = go X.high Y.high f.high g.high }
  where
    go : (x y : Float) → T (finite x) → T (finite y) → Number (x ⊕ y)
    go x y f g = number-left (add-mono binary32 f f g g (≼_refl x (finite_number x f)) (≼_refl y (finite_number y g)))

difference-numbers : (X Y : Interval) → Finite X → Finite Y → Numbers (Interval-sub_enclosure X Y)
unfolding Interval-sub_enclosure
difference-numbers X Y f g = record { low = go X.low Y.high f.low g.high; high = go X.high Y.low f.high g.low }
  where
    go : (x y : Float) → T (finite x) → T (finite y) → Number (x ⊖ y)
    go x y f g = number-left (sub-mono binary32 f f g g (≼_refl x (finite_number x f)) (≼_refl y (finite_number y g)))

-- An entry off the diagonal, twice a sum or a difference, and one on it.
module _ (X Y : Interval) (f : Finite X) (g : Finite Y) where
  sum-entry : Finite (Interval-mul_ordered 𝟐 (Interval-add_enclosure X Y)) → Finite (Interval-add_enclosure X Y)
  sum-entry h = doubled-finite (Interval-add_enclosure X Y) (sum-numbers X Y f g) h

  difference-entry : Finite (Interval-mul_ordered 𝟐 (Interval-sub_enclosure X Y)) → Finite (Interval-sub_enclosure X Y)
  difference-entry h = doubled-finite (Interval-sub_enclosure X Y) (difference-numbers X Y f g) h

  diagonal-entry : Finite (Interval-sub_enclosure 𝟏 (Interval-mul_ordered 𝟐 (Interval-add_enclosure X Y))) → Finite (Interval-add_enclosure X Y)
  diagonal-entry h = sum-entry (sub-operands 𝟏 (Interval-mul_ordered 𝟐 (Interval-add_enclosure X Y)) h).1

-- ---- the products
products-finite : (p : Products) → T (finite (Products-ends_sum p)) → All Finite (Products-list p)
unfolding Products-ends_sum
products-finite p h =
    let s = Interval-ends_sum p.xx ⊕ Interval-ends_sum p.yy ⊕ Interval-ends_sum p.zz in
    let t = Interval-ends_sum p.xy ⊕ Interval-ends_sum p.xz ⊕ Interval-ends_sum p.yz in
    let u = Interval-ends_sum p.wx ⊕ Interval-ends_sum p.wy ⊕ Interval-ends_sum p.wz in
    let f = three-finite s t u h in
    let a = three p.xx p.yy p.zz f.0 in
    let b = three p.xy p.xz p.yz f.1.0 in
    let c = three p.wx p.wy p.wz f.1.1 in
    (a.0, (a.1.0, (a.1.1, (b.0, (b.1.0, (b.1.1, (c.0, (c.1.0, (c.1.1, tt)))))))))
  where
    three : (X Y Z : Interval) → T (finite (Interval-ends_sum X ⊕ Interval-ends_sum Y ⊕ Interval-ends_sum Z)) → Finite X × (Finite Y × Finite Z)
    three X Y Z h =
        let f = three-finite (Interval-ends_sum X) (Interval-ends_sum Y) (Interval-ends_sum Z) h in
        (ends-finite X f.0, (ends-finite Y f.1.0, ends-finite Z f.1.1))

-- ---- the matrix
rotation-unjudged : (m : ℕ) (q : IntervalQuaternion) → All Finite (IntervalQuaternion-list q) → All Finite (Products-list (Products-of q))
    → FiniteRows (Pose-unjudged_rotation (Products-of q))
    → record { matrix = Pose-unjudged_rotation (Products-of q); refusal = m } ≡ Pose-enclose_rotation m q
unfolding Pose-enclose_rotation Pose-unjudged_rotation Products-of Program-unjudged Expr-unjudged_all Expr-unjudged of_bits
rotation-unjudged m q fq fp f =
    let p = Products-of q in
    let xx = fp.0 in
    let yy = fp.1.0 in
    let zz = fp.1.1.0 in
    let xy = fp.1.1.1.0 in
    let xz = fp.1.1.1.1.0 in
    let yz = fp.1.1.1.1.1.0 in
    let wx = fp.1.1.1.1.1.1.0 in
    let wy = fp.1.1.1.1.1.1.1.0 in
    let wz = fp.1.1.1.1.1.1.1.1.0 in
    let m00 = f.r0.0 in
    let m10 = f.r0.1.0 in
    let m20 = f.r0.1.1.0 in
    let m01 = f.r1.0 in
    let m11 = f.r1.1.0 in
    let m21 = f.r1.1.1.0 in
    let m02 = f.r2.0 in
    let m12 = f.r2.1.0 in
    let m22 = f.r2.1.1.0 in
    sym
    (ap JudgedMatrix-of
    (program-unjudged rotation_stage m (IntervalQuaternion-list q) fq tt (
      xx,
      (
        yy,
        (
          zz,
          (
            xy,
            (
              xz,
              (
                yz,
                (
                  wx,
                  (
                    wy,
                    (
                      wz,
                      (
                        m00,
                        (
                          diagonal-entry p.yy p.zz yy zz m00,
                          (
                            m01,
                            (
                              sum-entry p.xy p.wz xy wz m01,
                              (
                                m02,
                                (
                                  difference-entry p.xz p.wy xz wy m02,
                                  (
                                    m10,
                                    (
                                      difference-entry p.xy p.wz xy wz m10,
                                      (
                                        m11,
                                        (
                                          diagonal-entry p.xx p.zz xx zz m11,
                                          (
                                            m12,
                                            (
                                              sum-entry p.yz p.wx yz wx m12,
                                              (
                                                m20,
                                                (
                                                  sum-entry p.xz p.wy xz wy m20,
                                                  (
                                                    m21,
                                                    (
                                                      difference-entry p.yz p.wx yz wx m21,
                                                      (m22, (diagonal-entry p.xx p.yy xx yy m22, tt)),
                                                    ),
                                                  ),
                                                ),
                                              ),
                                            ),
                                          ),
                                        ),
                                      ),
                                    ),
                                  ),
                                ),
                              ),
                            ),
                          ),
                        ),
                      ),
                    ),
                  ),
                ),
              ),
            ),
          ),
        ),
      ),
    ) tt))

-- As the code has it: t is the test of the sum.
pub rotation-tested : (m : ℕ) (q : IntervalQuaternion) {p : Products} {M : IntervalMatrix} {A B C : Float} {t : Bool}
    → p ≡ Products-of q → M ≡ Pose-unjudged_rotation p
    → A ≡ IntervalQuaternion-ends_sum q → B ≡ Products-ends_sum p → C ≡ IntervalMatrix-ends_sum M → t ≡ finite (A ⊕ B ⊕ C) → t ≡ true
    → record { matrix = M; refusal = m } ≡ Pose-enclose_rotation m q
rotation-tested m q {p} {M} ep eM ea eb ec et h =
    let N = Pose-unjudged_rotation (Products-of q) in
    let e : M ≡ N = eM ∙ ap Pose-unjudged_rotation ep in
    let f = three-finite (IntervalQuaternion-ends_sum q) (Products-ends_sum (Products-of q))
    (IntervalMatrix-ends_sum N) (rw (← e, ← ep, ← ea, ← eb, ← ec, sym et ∙ h) tt) in
    rw e (rotation-unjudged m q (quaternion-finite q f.0) (products-finite (Products-of q) f.1.0) (rows-finite N f.1.1))
