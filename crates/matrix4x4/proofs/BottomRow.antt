-- The product of two affine matrices is affine if the second is finite (`mul-affine`), and the last entry of its bottom row is 1 itself (`mul-corner`).
-- The bottom row 0 0 0 1 times a column is a sum of zeros of either sign and, in the last column, of 1 (`Zero.antt`).
use mathlib.Core.Path.{◌≡◌}
use mathlib.Core.Bool.{Bool, true, false, ◌&&◌}
use Prim.Native.Nat.{ℕ}
use lib.Dec.{T}
use lib.Ieee.{Float, eq, of_bits}
use lib.Ieee.Fits.{and_i}
use lib.Ieee.Scale.{finite}
use Rattle.float32.specs.Operators.{◌⊕◌, ◌⊗◌, one}
use Rattle.matrix4x4.specs.Rows.{Row, Rows, row, col, at, all, positive_zero}
use Rattle.matrix4x4.specs.Transpose.{column}
use Rattle.matrix4x4.specs.Mul.{dot4, Matrix4x4-mul}
use Rattle.matrix4x4.specs.IsFinite.{Matrix4x4-is_finite}
use Rattle.matrix4x4.specs.IsAffine.{Matrix4x4-is_affine}
use Rattle.matrix4x4.proofs.Zero.{Zero, One, one-one, one-finite, zero-mul, mul-zero, zero-add-zero, one-mul-one, zero-add-one, eq-zero, zero-eq, eq-one}

-- four tests that hold together, one by one
record Four (p q r s : Bool) : Type 0 where
  first : T p
  second : T q
  third : T r
  fourth : T s

four-and : (p q r s : Bool) → T (p && q && r && s) → Four p q r s
four-and true true true true h = record { first = tt; second = tt; third = tt; fourth = tt }
four-and true true true false h = absurd h
four-and true true false s h = absurd h
four-and true false r s h = absurd h
four-and false q r s h = absurd h

one-eq : {x : Float} → x ≡ one → T (eq x one)
unfolding eq of_bits
one-eq h = rw h tt

four-all : (p : ℕ → Bool) → T (all p) → Four (p 0) (p 1) (p 2) (p 3)
four-all p h = four-and (p 0) (p 1) (p 2) (p 3) h

-- a row 0 0 0 1
record Bottom (r : Row) : Type 0 where
  x : Zero (col r 0)
  y : Zero (col r 1)
  z : Zero (col r 2)
  w : One (col r 3)

affine-bottom : (m : Rows) → T (Matrix4x4-is_affine m) → Bottom (row m 3)
unfolding Matrix4x4-is_affine
affine-bottom m h =
    let f = four-and (eq (at m 3 0) positive_zero) (eq (at m 3 1) positive_zero) (eq (at m 3 2) positive_zero) (eq (at m 3 3) one) h in
    record {
      x = eq-zero (at m 3 0) f.first;
      y = eq-zero (at m 3 1) f.second;
      z = eq-zero (at m 3 2) f.third;
      w = eq-one (at m 3 3) f.fourth;
    }

bottom-affine : (m : Rows) → Zero (at m 3 0) → Zero (at m 3 1) → Zero (at m 3 2) → at m 3 3 ≡ one → T (Matrix4x4-is_affine m)
unfolding Matrix4x4-is_affine
bottom-affine m x y z w = go (eq (at m 3 0) positive_zero) (eq (at m 3 1) positive_zero) (eq (at m 3 2) positive_zero) (zero-eq x) (zero-eq y) (zero-eq z)
  where
    go : (p q r : Bool) → T p → T q → T r → T (p && q && r && eq (at m 3 3) one)
    go p q r a b c = and_i (p && q && r) (eq (at m 3 3) one) (and_i (p && q) r (and_i p q a b) c) (one-eq w)

module _ (r c : Row) (b : Bottom r) (fx : T (finite (col c 0))) (fy : T (finite (col c 1))) (fz : T (finite (col c 2))) where
  above_zero : Zero (col r 0 ⊗ col c 0 ⊕ col r 1 ⊗ col c 1 ⊕ col r 2 ⊗ col c 2)
  above_zero = zero-add-zero (zero-add-zero (zero-mul (col c 0) b.x fx) (zero-mul (col c 1) b.y fy)) (zero-mul (col c 2) b.z fz)

  dot-zero : Zero (col c 3) → Zero (dot4 r c)
  dot-zero z = zero-add-zero above_zero (mul-zero (col r 3) (one-finite b.w) z)

  dot-one : One (col c 3) → dot4 r c ≡ one
  dot-one w = rw (one-mul-one b.w w) (zero-add-one above_zero one-one)

module _ (m1 m2 : Rows) (a1 : T (Matrix4x4-is_affine m1)) (a2 : T (Matrix4x4-is_affine m2)) (f2 : T (Matrix4x4-is_finite m2)) where
  rows-finite : Four (all (λ j. finite (at m2 0 j))) (all (λ j. finite (at m2 1 j))) (all (λ j. finite (at m2 2 j))) (all (λ j. finite (at m2 3 j)))
  unfolding Matrix4x4-is_finite
  rows-finite = four-all (λ i. all (λ j. finite (at m2 i j))) f2

  r0 : Four (finite (at m2 0 0)) (finite (at m2 0 1)) (finite (at m2 0 2)) (finite (at m2 0 3))
  r0 = four-all (λ j. finite (at m2 0 j)) rows-finite.first

  r1 : Four (finite (at m2 1 0)) (finite (at m2 1 1)) (finite (at m2 1 2)) (finite (at m2 1 3))
  r1 = four-all (λ j. finite (at m2 1 j)) rows-finite.second

  r2 : Four (finite (at m2 2 0)) (finite (at m2 2 1)) (finite (at m2 2 2)) (finite (at m2 2 3))
  r2 = four-all (λ j. finite (at m2 2 j)) rows-finite.third

  b1 : Bottom (row m1 3)
  b1 = affine-bottom m1 a1

  b2 : Bottom (row m2 3)
  b2 = affine-bottom m2 a2

  pub mul-corner : at (Matrix4x4-mul m1 m2) 3 3 ≡ one
  unfolding Matrix4x4-mul
  mul-corner = dot-one (row m1 3) (column m2 3) b1 r0.fourth r1.fourth r2.fourth b2.w

  pub mul-affine : T (Matrix4x4-is_affine (Matrix4x4-mul m1 m2))
  unfolding Matrix4x4-mul
  mul-affine =
      bottom-affine (Matrix4x4-mul m1 m2)
      (dot-zero (row m1 3) (column m2 0) b1 r0.first r1.first r2.first b2.x)
      (dot-zero (row m1 3) (column m2 1) b1 r0.second r1.second r2.second b2.y)
      (dot-zero (row m1 3) (column m2 2) b1 r0.third r1.third r2.third b2.z)
      mul-corner
