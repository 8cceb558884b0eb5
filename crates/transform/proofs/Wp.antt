-- The homogeneous coordinate wp of a moved point. `wp-one`: under an affine matrix it is 1 for a finite point, so that nothing is divided (`moved-affine`).
-- `wp-zero`: where it is zero, the answer is the refusal 5, since a quotient by a zero is never finite (`div-zero`).
-- Rests on the arithmetic of zeros in `matrix4x4`.
use Rattle.std.specs.Prelude.{Err}
use mathlib.Core.Path.{◌≡◌, refl}
use mathlib.Core.Bool.{Bool, true, false, ◌&&◌, cond}
use Prim.Native.Nat.{◌*◌}
use native.Mathlib.Omega.{arith}
use borrow.Author.Tests.{ne_eqb}
use lib.Dec.{T, eqb}
use lib.Ieee.{Float, nan, inf, fin, of_bits, up, down, unlike, div, eq}
use lib.Ieee.Fits.{down_pos, and_l, and_r}
use lib.Ieee.Scale.{finite}
use Rattle.bounds3.specs.float32.Operators.{◌⊘◌, one}
use Rattle.matrix4x4.specs.Rows.{Rows, row, at, positive_zero, Matrix4x4-to_rows}
use Rattle.matrix4x4.specs.IsAffine.{Matrix4x4-is_affine}
use Rattle.matrix4x4.proofs.Zero.{Zero, signed, mul-zero, zero-add-zero, zero-add-one, eq-zero, eq-one}
use Rattle.bounds3.specs.declared.Point3f.{Point3f}
use Rattle.bounds3.specs.Finite.{Point3f-is_finite, Finite}
use Rattle.transform.specs.declared.Transform.{Transform}
use Rattle.transform.specs.TransformPoint.{mul_point, moved_point, PointAnswer-judged, Transform-transform_point}

-- ---- wp is 1
module _ (m : Rows) (p : Point3f) (a : T (Matrix4x4-is_affine m)) (f : Finite p) where
  pub wp-one : mul_point (row m 3) p ≡ one
  unfolding Matrix4x4-is_affine
  wp-one =
      let x = eq (at m 3 0) positive_zero in
      let y = eq (at m 3 1) positive_zero in
      let z = eq (at m 3 2) positive_zero in
      let w = eq (at m 3 3) one in
      let xyz = and_l (x && y && z) w a in
      let xy = and_l (x && y) z xyz in
      zero-add-one
      (zero-add-zero
      (zero-add-zero (mul-zero p.x f.x (eq-zero (at m 3 0) (and_l x y xy))) (mul-zero p.y f.y (eq-zero (at m 3 1) (and_r x y xy))))
      (mul-zero p.z f.z (eq-zero (at m 3 2) (and_r (x && y) z xyz))))
      (eq-one (at m 3 3) (and_r (x && y && z) w a))

  pub moved-affine : moved_point m p ≡ record { x = mul_point (row m 0) p; y = mul_point (row m 1) p; z = mul_point (row m 2) p }
  unfolding moved_point
  moved-affine = rw (wp-one, one-is-one)
    where
      one-is-one : eq one one ≡ true
      one-is-one = unfold eq of_bits in refl

-- ---- wp is zero
pub div-zero : (x : Float) {z : Float} → Zero z → finite (x ⊘ z) ≡ false
unfolding div
div-zero nan (signed t d) = refl
div-zero (inf s) (signed t d) = refl
div-zero (fin s m e) (signed t d) = go (eqb m 0)
  where
    go : (b : Bool) → finite (cond b nan (inf (unlike s t))) ≡ false
    go true = refl
    go false = refl

zero-not-one : {z : Float} → Zero z → eq z one ≡ false
unfolding eq of_bits
zero-not-one (signed s e) = rw (ne_eqb (0 * up e * 1) (1 * down e) (λ h. let d = down_pos e in omega arith))

pub wp-zero : (t : Transform) (p : Point3f) → T (eq (mul_point (row (Matrix4x4-to_rows t.m) 3) p) positive_zero) → Transform-transform_point t p ≡ Err 5
unfolding Transform-transform_point PointAnswer-judged moved_point Point3f-is_finite
wp-zero t p h =
    let m = Matrix4x4-to_rows t.m in
    let z = eq-zero (mul_point (row m 3) p) h in
    rw (zero-not-one z, div-zero (mul_point (row m 0) p) z)
