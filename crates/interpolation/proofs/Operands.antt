-- What is not finite stays so: a finite sum, difference or product of floats has finite operands, and so has a finite product of matrices (`product-finite`) and of
-- transforms (`transform-finite`); a finite rotation comes from a finite quaternion. So where the last product of `composed` is finite and the scale has its
-- inverse, every test before it is passed: `composed-last`, and as the code tests it `composed-tested`.
use Prim.Native.Nat.{ℕ}
use mathlib.Core.Path.{◌≡◌, refl, sym, ap, subst, ◌∙◌}
use mathlib.Core.Bool.{Bool, true, false, ◌&&◌, cond}
use borrow.Author.Tests.{eqb-true}
use lib.Dec.{T, eqb}
use lib.Ieee.{Float, nan, inf, fin, mul, unlike}
use lib.Ieee.Fits.{and_l, and_r, and_i}
use lib.Ieee.Scale.{finite}
use Rattle.matrix4x4.specs.float32.Operators.{◌⊕◌, ◌⊗◌, two}
use Rattle.unit_interval.proofs.interval.Finite.{add-finite}
use Rattle.matrix4x4.specs.Rows.{Row, Rows, row, col, at, all, Matrix4x4-to_rows}
use Rattle.matrix4x4.specs.Transpose.{column, Matrix4x4-transpose}
use Rattle.matrix4x4.specs.Mul.{dot4, Matrix4x4-mul}
use Rattle.matrix4x4.specs.IsFinite.{Matrix4x4-is_finite}
use Rattle.vector3.specs.declared.Vector3f.{Vector3f}
use Rattle.quaternion.specs.declared.Quaternion.{Quaternion}
use Rattle.quaternion.specs.IsFinite.{Quaternion-is_finite}
use Rattle.transform.specs.declared.Transform.{Transform}
use Rattle.transform.specs.Transform.{TransformAnswer}
use Rattle.transform.specs.Transform.{TransformAnswer-refused, Transform-from_matrix, Transform-translate, Transform-mul}
use Rattle.transform.proofs.FromMatrix.{from-matrix-refusal, from-matrix-accepted}
use Rattle.rotation.specs.FromQuaternion.{inverse_rotation, Transform-from_quaternion}
use Rattle.pose_parts.proofs.pose_steps.Finite.{all-each}
use Rattle.interpolation.specs.Interpolate.{Transform-is_finite, TransformAnswer-accepted, TransformAnswer-judged, scaled, composed}
use Rattle.interpolation.proofs.Finite.{first_product, last_product}

never : (b u : Bool) → T (finite (cond b nan (inf u))) → ⊥
never true u h = h
never false u h = h

factors : (x y : Float) → T (finite (x ⊗ y)) → T (finite x) × T (finite y)
unfolding mul
factors nan y h = absurd h
factors (inf s) nan h = absurd h
factors (inf s) (inf t) h = absurd h
factors (inf s) (fin t n d) h = absurd (never (eqb n 0) (unlike s t) h)
factors (fin s m e) nan h = absurd h
factors (fin s m e) (inf t) h = absurd (never (eqb m 0) (unlike s t) h)
factors (fin s m e) (fin t n d) h = (tt, tt)

-- ---- products of matrices
-- The first four entries of a row.
record Four (r : Row) : Type 0 where
  a : T (finite (col r 0))
  b : T (finite (col r 1))
  c : T (finite (col r 2))
  d : T (finite (col r 3))

dot-finite : (r c : Row) → T (finite (dot4 r c)) → Four r × Four c
dot-finite r c h =
    let p = add-finite (col r 0 ⊗ col c 0 ⊕ col r 1 ⊗ col c 1 ⊕ col r 2 ⊗ col c 2) (col r 3 ⊗ col c 3) h in
    let q = add-finite (col r 0 ⊗ col c 0 ⊕ col r 1 ⊗ col c 1) (col r 2 ⊗ col c 2) p.0 in
    let s = add-finite (col r 0 ⊗ col c 0) (col r 1 ⊗ col c 1) q.0 in
    let f0 = factors (col r 0) (col c 0) s.0 in
    let f1 = factors (col r 1) (col c 1) s.1 in
    let f2 = factors (col r 2) (col c 2) q.1 in
    let f3 = factors (col r 3) (col c 3) p.1 in
    (record { a = f0.0; b = f1.0; c = f2.0; d = f3.0 }, record { a = f0.1; b = f1.1; c = f2.1; d = f3.1 })

four-all : (a b c d : Bool) → T a → T b → T c → T d → T (a && b && c && d)
four-all a b c d s t u v = and_i (a && b && c) d (and_i (a && b) c (and_i a b s t) u) v

rows-finite : (m : Rows) → Four (row m 0) → Four (row m 1) → Four (row m 2) → Four (row m 3) → T (Matrix4x4-is_finite m)
unfolding Matrix4x4-is_finite
rows-finite m p q r s =
    four-all (line 0) (line 1) (line 2) (line 3) (each (row m 0) p) (each (row m 1) q) (each (row m 2) r) (each (row m 3) s)
  where
    line : ℕ → Bool
    line i = all (λ j. finite (at m i j))

    each : (r : Row) → Four r → T (all (λ j. finite (col r j)))
    each r f = four-all (finite (col r 0)) (finite (col r 1)) (finite (col r 2)) (finite (col r 3)) f.a f.b f.c f.d

-- The entries of a finite matrix.
entries : (m : Rows) → T (Matrix4x4-is_finite m) → Four (row m 0) × Four (row m 1) × Four (row m 2) × Four (row m 3)
unfolding Matrix4x4-is_finite
entries m h =
    let (p, q, r, s) = all-each (λ i. all (λ j. finite (at m i j))) h in
    (each (row m 0) p, each (row m 1) q, each (row m 2) r, each (row m 3) s)
  where
    each : (r : Row) → T (all (λ j. finite (col r j))) → Four r
    each r h = let (x, y, z, w) = all-each (λ j. finite (col r j)) h in record { a = x; b = y; c = z; d = w }

product-finite : (m n : Rows) → T (Matrix4x4-is_finite (Matrix4x4-mul m n)) → T (Matrix4x4-is_finite m) × T (Matrix4x4-is_finite n)
unfolding Matrix4x4-mul
product-finite m n h =
    let (p, q, r, s) = entries (Matrix4x4-mul m n) h in
    let (r0, c0) = dot-finite (row m 0) (column n 0) p.a in
    let (_, c1) = dot-finite (row m 0) (column n 1) p.b in
    let (_, c2) = dot-finite (row m 0) (column n 2) p.c in
    let (_, c3) = dot-finite (row m 0) (column n 3) p.d in (
      rows-finite m r0 (dot-finite (row m 1) (column n 0) q.a).0 (dot-finite (row m 2) (column n 0) r.a).0 (dot-finite (row m 3) (column n 0) s.a).0,
      rows-finite n
          (record { a = c0.a; b = c1.a; c = c2.a; d = c3.a })
          (record { a = c0.b; b = c1.b; c = c2.b; d = c3.b })
          (record { a = c0.c; b = c1.c; c = c2.c; d = c3.c })
          (record { a = c0.d; b = c1.d; c = c2.d; d = c3.d }),
    )

halves : (t : Transform) → T (Transform-is_finite t) → T (Matrix4x4-is_finite (Matrix4x4-to_rows t.m)) × T (Matrix4x4-is_finite (Matrix4x4-to_rows t.m_inv))
unfolding Transform-is_finite
halves t h =
    let a = Matrix4x4-is_finite (Matrix4x4-to_rows t.m) in
    let b = Matrix4x4-is_finite (Matrix4x4-to_rows t.m_inv) in
    (and_l a b h, and_r a b h)

both : (t : Transform) → T (Matrix4x4-is_finite (Matrix4x4-to_rows t.m)) → T (Matrix4x4-is_finite (Matrix4x4-to_rows t.m_inv)) → T (Transform-is_finite t)
unfolding Transform-is_finite
both t p q = and_i (Matrix4x4-is_finite (Matrix4x4-to_rows t.m)) (Matrix4x4-is_finite (Matrix4x4-to_rows t.m_inv)) p q

transform-finite : (s t : Transform) → T (Transform-is_finite (Transform-mul s t)) → T (Transform-is_finite s) × T (Transform-is_finite t)
transform-finite s t h =
    let (p, q) = halves (Transform-mul s t) h in
    let (sm, tm) = product-finite (Matrix4x4-to_rows s.m) (Matrix4x4-to_rows t.m) (unfold Transform-mul Matrix4x4-mul in p) in
    let (ti, si) = product-finite (Matrix4x4-to_rows t.m_inv) (Matrix4x4-to_rows s.m_inv) (unfold Transform-mul Matrix4x4-mul in q) in
    (both s sm si, both t tm ti)

-- ---- a rotation
quaternion-finite : (q : Quaternion) → T (Transform-is_finite (Transform-from_quaternion q)) → T (Quaternion-is_finite q)
unfolding Transform-from_quaternion inverse_rotation Quaternion-is_finite
quaternion-finite q h =
    let (p, _, _, _) = entries (inverse_rotation q) (halves (Transform-from_quaternion q) h).1 in
    let xy = q.v.x ⊗ q.v.y in
    let wz = q.v.z ⊗ q.w in
    let s = add-finite xy wz (factors two (xy ⊕ wz) p.b).1 in
    let f = factors q.v.x q.v.y s.0 in
    let g = factors q.v.z q.w s.1 in
    four-all (finite q.v.x) (finite q.v.y) (finite q.v.z) (finite q.w) f.0 f.1 g.0 g.1

-- ---- the composition
taken : (b : Bool) (x y : TransformAnswer) → T b → cond b x y ≡ x
taken true x y h = refl
taken false x y h = elim h [ ]

module _ (trans : Vector3f) (rotate : Quaternion) (scale : Rows) (z : (Transform-from_matrix scale).refusal ≡ 0)
    (h : T (Transform-is_finite (last_product trans rotate scale))) where
  scale-finite : T (Matrix4x4-is_finite (Matrix4x4-to_rows (Transform-from_matrix scale).transform.m))
  scale-finite = (halves (Transform-from_matrix scale).transform (transform-finite (first_product trans rotate) (Transform-from_matrix scale).transform h).1).0

  own-scale : T (Matrix4x4-is_finite scale)
  unfolding Matrix4x4-is_finite
  own-scale =
      subst (λ (a : TransformAnswer). T (Matrix4x4-is_finite (Matrix4x4-to_rows a.transform.m)))
      (from-matrix-accepted scale (sym (from-matrix-refusal scale) ∙ z)) scale-finite

  pub composed-last : composed trans rotate scale ≡ TransformAnswer-accepted (last_product trans rotate scale)
  unfolding composed scaled TransformAnswer-judged
  composed-last =
      let first = (transform-finite (first_product trans rotate) (Transform-from_matrix scale).transform h).0 in
      let (t, r) = transform-finite (Transform-translate trans) (Transform-from_quaternion rotate) first in
      let Q = Quaternion-is_finite rotate in
      let K = Q && Matrix4x4-is_finite scale in
      let U = K && Transform-is_finite (Transform-translate trans) in
      let R = U && Transform-is_finite (Transform-from_quaternion rotate) in
      taken (R && Transform-is_finite (first_product trans rotate)) (scaled (first_product trans rotate) scale) (TransformAnswer-refused 5)
      (and_i R (Transform-is_finite (first_product trans rotate))
      (and_i U (Transform-is_finite (Transform-from_quaternion rotate))
      (and_i K (Transform-is_finite (Transform-translate trans)) (and_i Q (Matrix4x4-is_finite scale) (quaternion-finite rotate r) own-scale) t) r) first)
      ∙ (rw z (taken (Transform-is_finite (last_product trans rotate scale)) (TransformAnswer-accepted (last_product trans rotate scale)) (TransformAnswer-refused 5) h))

-- As the code tests it.
pub composed-tested : (trans : Vector3f) (rotate : Quaternion) (scale : Rows) (last : Transform) → (Transform-from_matrix scale).refusal ≡ 0
    → last ≡ last_product trans rotate scale → Transform-is_finite last ≡ true → TransformAnswer-accepted last ≡ composed trans rotate scale
composed-tested trans rotate scale last none same finite =
    ap TransformAnswer-accepted same
    ∙ sym (composed-last trans rotate scale none (subst (λ (t : Transform). T (Transform-is_finite t)) same (rw finite tt)))
