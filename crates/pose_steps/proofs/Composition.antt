-- The float reading of the stages gives the bits of pbrt's own composition: of the matrix (`matrix-composition`), wherever it
-- is not refused, and of a finite point that it moves, wp included (`point-composition`). Stage by stage the two are one term;
-- only the products' bottom rows ask for the arithmetic of zeros (`mul-same`).
use mathlib.Core.Path.{◌≡◌, refl, sym, ap, ◌∙◌, subst}
use mathlib.Core.Bool.{Bool, true, false, ◌&&◌}
use mathlib.Core.List.{[], ◌∷◌}
use Prim.Native.Nat.{ℕ, ◌<◌, ◌*◌}
use native.Mathlib.Nat as nat
use native.Mathlib.Omega.{arith}
use lib.Dec.{T}
use lib.Ieee.{Float, binary32, of_bits, down, up, round, sum, add, mul, eq, lt}
use lib.Ieee.Fits.{down_pos, and_l, and_r}
use lib.Ieee.Scale.{finite, round_same}
use Rattle.matrix4x4.specs.float32.Operators.{◌⊕◌, ◌⊗◌, one}
use Rattle.matrix4x4.specs.float32.Lerp.{lerp}
use Rattle.vector3.specs.declared.Vector3f.{Vector3f}
use Rattle.matrix4x4.specs.declared.Matrix4x4.{Matrix4x4}
use Rattle.matrix4x4.specs.Rows.{Row, Rows, col, at, all, positive_zero, Matrix4x4-to_rows, Matrix4x4-from_rows}
use Rattle.matrix4x4.specs.Transpose.{Matrix4x4-transpose}
use Rattle.matrix4x4.specs.Mul.{dot4, Matrix4x4-mul}
use Rattle.matrix4x4.specs.IsFinite.{Matrix4x4-is_finite}
use Rattle.matrix4x4.specs.IsAffine.{bottom_row, Matrix4x4-is_affine}
use Rattle.matrix4x4.proofs.Zero.{Zero, signed, zero-zero, one-one, zero-mul, zero-add-zero, one-mul-one, zero-add-one}
use Rattle.quaternion.specs.declared.Quaternion.{Quaternion}
use Rattle.quaternion.specs.Quaternion.{Quaternion-dot, Quaternion-normalize, Quaternion-add, Quaternion-sub, Quaternion-mul, Quaternion-div}
use Rattle.quaternion.specs.IsFinite.{Quaternion-is_finite}
use Rattle.quaternion.specs.Slerp as leaf
use Rattle.quaternion.specs.Slerp.{slerp_threshold, Quaternion-slerp}
use Rattle.rotation.specs.bounds3.declared.Point3f.{Point3f}
use Rattle.rotation.specs.bounds3.Finite.{Finite}
use Rattle.rotation.specs.transform.declared.Transform.{Transform}
use Rattle.rotation.specs.transform.Transform.{translation, Transform-mul}
use Rattle.rotation.specs.transform.TransformPoint.{PointAnswer-judged, Transform-transform_point}
use Rattle.rotation.proofs.transform.Wp.{moved-affine}
use Rattle.rotation.specs.FromQuaternion.{inverse_rotation, Transform-from_quaternion}
use Rattle.pose_steps.specs.declared.PoseConstants.{PoseConstants}
use Rattle.pose_steps.specs.Pose.{PoseConstants-new, Pose-translation, Pose-slerp_near, Pose-slerp_far, slerp_by, Pose-slerp}
use Rattle.pose_steps.specs.Pose.{Pose-scale_row, Pose-scale, Pose-scale_by, Pose-rotation, Pose-mul_row, Pose-mul}
use Rattle.pose_steps.specs.Pose.{Pose-transform_point, all_finite, PoseAnswer-judged, Pose-matrix, Pose-moved_point}
use Rattle.pose_steps.specs.Composition.{lerp_translation, lerp_scale, lerp_scale_by, composition}
use Rattle.pose_steps.proofs.Rows.{scale-by-bottom, rotation-bottom, mul-bottom}
use Rattle.pose_steps.proofs.Finite.{all-each}

-- ---- stages whose two definitions are one term
pub translation-same : (t0 t1 : Vector3f) (dt : Float) → Pose-translation t0 t1 dt ≡ lerp_translation t0 t1 dt
unfolding Pose-translation
translation-same t0 t1 dt = refl

pub slerp-same : (k : Bool) (t0 t1 : Vector3f) (r0 r1 : Quaternion) (dt : Float) → Pose-slerp (PoseConstants-new k t0 t1 r0 r1) dt ≡ Quaternion-slerp r0 r1 dt
unfolding PoseConstants-new Pose-slerp Quaternion-slerp
slerp-same k t0 t1 r0 r1 dt = go (lt slerp_threshold (Quaternion-dot r0 r1))
  where
    go : (b : Bool) → slerp_by b (PoseConstants-new k t0 t1 r0 r1) dt ≡ leaf.slerp_by b r0 r1 dt (Quaternion-dot r0 r1)
    go true = unfold slerp_by leaf.slerp_by Pose-slerp_near leaf.slerp_near Quaternion-normalize Quaternion-add Quaternion-mul Quaternion-div Quaternion-dot in refl
    go false = unfold slerp_by leaf.slerp_by Pose-slerp_far leaf.slerp_far Quaternion-normalize
        Quaternion-add Quaternion-sub Quaternion-mul Quaternion-div Quaternion-dot in refl

pub scale_same : (s0 s1 : Matrix4x4) (dt : Float) → Matrix4x4-to_rows (Pose-scale s0 s1 dt) ≡ lerp_scale (Matrix4x4-to_rows s0) (Matrix4x4-to_rows s1) dt
unfolding Pose-scale Pose-scale_row lerp
scale_same s0 s1 dt = refl

pub scale-by-same : (k : Bool) (s0 s1 : Matrix4x4) (dt : Float)
    → Matrix4x4-to_rows (Pose-scale_by k s0 s1 dt) ≡ lerp_scale_by k (Matrix4x4-to_rows s0) (Matrix4x4-to_rows s1) dt
unfolding Pose-scale_by lerp_scale_by
scale-by-same true s0 s1 dt = refl
scale-by-same false s0 s1 dt = scale_same s0 s1 dt

pub rotation-same : (q : Quaternion) → (Transform-from_quaternion q).m ≡ Pose-rotation q
unfolding Pose-rotation Transform-from_quaternion Matrix4x4-transpose inverse_rotation
rotation-same q = refl

-- ---- the bottom row of a product
round-zero : (c : ℕ) → 0 < c → round binary32 false 0 c ≡ positive_zero
unfolding round of_bits
round-zero c h = round_same binary32 false 0 c 0 1 h (omega arith) (omega arith)

sum-zero : (s : Bool) (a b c : ℕ) → a ≡ 0 → b ≡ 0 → 0 < c → sum binary32 s a false b c ≡ positive_zero
unfolding sum
sum-zero true a b c p q h = rw (p, q) (round-zero c h)
sum-zero false a b c p q h = rw (p, q) (round-zero c h)

-- A zero of either sign plus +0 is +0.
zero-plus : {x : Float} → Zero x → x ⊕ positive_zero ≡ positive_zero
unfolding add of_bits
zero-plus (signed s e) =
    sum-zero s (0 * up e * 1) (0 * down e) (down e * 1) (simp nat.zero-mul) (simp nat.zero-mul) (nat.mul-pos (down_pos e) (nat.zero-lt-suc 0))

one-times : one ⊗ positive_zero ≡ positive_zero
unfolding mul round of_bits
one-times = refl

module _ (x y z : Float) (f : T (finite x)) (g : T (finite y)) (h : T (finite z)) where
  above : Zero (positive_zero ⊗ x ⊕ positive_zero ⊗ y ⊕ positive_zero ⊗ z)
  above = zero-add-zero (zero-add-zero (zero-mul x zero-zero f) (zero-mul y zero-zero g)) (zero-mul z zero-zero h)

  bottom-zero : dot4 bottom_row (x ∷ y ∷ z ∷ positive_zero ∷ []) ≡ positive_zero
  bottom-zero = rw one-times (zero-plus above)

  bottom-one : dot4 bottom_row (x ∷ y ∷ z ∷ one ∷ []) ≡ one
  bottom-one = rw (one-mul-one one-one one-one) (zero-add-one above one-one)

-- The matrix with these rows above 0 0 0 1.
abbrev affine : Row → Row → Row → Matrix4x4
affine p q r = record { r0 = p; r1 = q; r2 = r; r3 = bottom_row }

module _ (a b c p q r : Row) where
  mul-same : T (all_finite (affine p q r))
      → Matrix4x4-from_rows (Matrix4x4-mul (Matrix4x4-to_rows (affine a b c)) (Matrix4x4-to_rows (affine p q r))) ≡ Pose-mul (affine a b c) (affine p q r)
  unfolding Matrix4x4-mul Pose-mul Pose-mul_row Matrix4x4-is_finite
  mul-same f =
      let (P, Q, R, S) = all-each (λ i. all (λ j. finite (at (Matrix4x4-to_rows (affine p q r)) i j))) f in
      let (p0, p1, p2, p3) = all-each (λ j. finite (col p j)) P in
      let (q0, q1, q2, q3) = all-each (λ j. finite (col q j)) Q in
      let (r0, r1, r2, r3) = all-each (λ j. finite (col r j)) R in
      rw (
        bottom-zero (col p 0) (col q 0) (col r 0) p0 q0 r0,
        bottom-zero (col p 1) (col q 1) (col r 1) p1 q1 r1,
        bottom-zero (col p 2) (col q 2) (col r 2) p2 q2 r2,
        bottom-one (col p 3) (col q 3) (col r 3) p3 q3 r3,
      )

abbrev pub product : Matrix4x4 → Matrix4x4 → Matrix4x4
product A B = Matrix4x4-from_rows (Matrix4x4-mul (Matrix4x4-to_rows A) (Matrix4x4-to_rows B))

pub product-same : (A B : Matrix4x4) → A.r3 ≡ bottom_row → B.r3 ≡ bottom_row → T (all_finite B) → product A B ≡ Pose-mul A B
product-same A B α β f =
    subst (λ (x : Row). product (with A x) B ≡ Pose-mul (with A x) B) (sym α)
    (subst (λ (y : Row). T (all_finite (with B y)) → product (with A bottom_row) (with B y) ≡ Pose-mul (with A bottom_row) (with B y)) (sym β)
    (mul-same A.r0 A.r1 A.r2 B.r0 B.r1 B.r2) f)
  where
    with : Matrix4x4 → Row → Matrix4x4
    with m x = record { r0 = m.r0; r1 = m.r1; r2 = m.r2; r3 = x }

judged-accepted : (b : Bool) (m : Matrix4x4) → (PoseAnswer-judged b m).refusal ≡ 0 → T b × ((PoseAnswer-judged b m).m ≡ m)
unfolding PoseAnswer-judged
judged-accepted true m z = (tt, refl)
judged-accepted false m z = absurd (omega arith)

-- ---- the composition
abbrev translation_of : Vector3f → Matrix4x4
translation_of v = translation v.x v.y v.z

module _ (k : Bool) (t0 t1 : Vector3f) (r0 r1 : Quaternion) (s0 s1 : Matrix4x4) (S : Transform) (dt : Float)
    (e : Matrix4x4-to_rows S.m ≡ lerp_scale_by k (Matrix4x4-to_rows s0) (Matrix4x4-to_rows s1) dt) where
  pub matrix-composition : (Pose-matrix (PoseConstants-new k t0 t1 r0 r1) s0 s1 dt).refusal ≡ 0
      → (composition t0 t1 r0 r1 S dt).m ≡ (Pose-matrix (PoseConstants-new k t0 t1 r0 r1) s0 s1 dt).m
  unfolding PoseConstants-new Pose-matrix composition Transform-mul
  matrix-composition z =
      let a = PoseConstants-new k t0 t1 r0 r1 in
      let trans = Pose-translation t0 t1 dt in
      let rotate = Pose-slerp a dt in
      let scale = Pose-scale_by k s0 s1 dt in
      let translate = translation trans.x trans.y trans.z in
      let rotation = Pose-rotation rotate in
      let first = Pose-mul translate rotation in
      let last = Pose-mul first scale in
      let Q = Quaternion-is_finite rotate in
      let K = Q && all_finite scale in
      let U = K && all_finite translate in
      let R = U && all_finite rotation in
      let F = R && all_finite first in
      let (t, l) = judged-accepted (F && all_finite last) last z in
      let tR = and_l R (all_finite first) (and_l F (all_finite last) t) in
      let tK = and_l K (all_finite translate) (and_l U (all_finite rotation) tR) in
      let h : Matrix4x4-to_rows S.m ≡ Matrix4x4-to_rows scale = e ∙ sym (scale-by-same k s0 s1 dt) in
      let τ : translation_of (lerp_translation t0 t1 dt) ≡ translate = ap translation_of (sym (translation-same t0 t1 dt)) in
      let ρ : (Transform-from_quaternion (Quaternion-slerp r0 r1 dt)).m ≡ rotation =
      ap (λ (q : Quaternion). (Transform-from_quaternion q).m) (sym (slerp-same k t0 t1 r0 r1 dt)) ∙ rotation-same rotate in
      ap (λ (s : Rows). Matrix4x4-from_rows
      (Matrix4x4-mul (Matrix4x4-to_rows (product (translation_of (lerp_translation t0 t1 dt)) (Transform-from_quaternion (Quaternion-slerp r0 r1 dt)).m)) s)) h
      ∙ ap (λ (m : Matrix4x4). product (product m (Transform-from_quaternion (Quaternion-slerp r0 r1 dt)).m) scale) τ
      ∙ ap (λ (m : Matrix4x4). product (product translate m) scale) ρ
      ∙ ap (λ (m : Matrix4x4). product m scale) (product-same translate rotation refl (rotation-bottom rotate) (and_r U (all_finite rotation) tR))
      ∙ product-same first scale (mul-bottom translate rotation) (scale-by-bottom k s0 s1 dt) (and_r Q (all_finite scale) tK)
      ∙ sym l

affine-bottom : (m : Matrix4x4) → m.r3 ≡ bottom_row → T (Matrix4x4-is_affine (Matrix4x4-to_rows m))
unfolding Matrix4x4-is_affine eq of_bits
affine-bottom m h = rw h tt

-- A transform with such a bottom row moves a finite point as the stage does: wp is 1.
pub point-affine : (t : Transform) (p : Point3f) → T (Matrix4x4-is_affine (Matrix4x4-to_rows t.m))
    → Finite p → Transform-transform_point t p ≡ PointAnswer-judged (Pose-transform_point t.m p)
unfolding Transform-transform_point Pose-transform_point
point-affine t p a f = ap PointAnswer-judged (moved-affine (Matrix4x4-to_rows t.m) p a f)

accepted-bottom : (a : PoseConstants) (s0 s1 : Matrix4x4) (dt : Float) → (Pose-matrix a s0 s1 dt).refusal ≡ 0 → (Pose-matrix a s0 s1 dt).m.r3 ≡ bottom_row
unfolding Pose-matrix
accepted-bottom a s0 s1 dt z =
    let trans = Pose-translation a.t0 a.t1 dt in
    let scale = Pose-scale_by a.rigid s0 s1 dt in
    let translate = translation_of trans in
    let rotation = Pose-rotation (Pose-slerp a dt) in
    let first = Pose-mul translate rotation in
    let last = Pose-mul first scale in
    let b = Quaternion-is_finite (Pose-slerp a dt) && all_finite scale && all_finite translate && all_finite rotation && all_finite first && all_finite last in
    ap (λ (m : Matrix4x4). m.r3) (judged-accepted b last z).1 ∙ mul-bottom first scale

module _ (k : Bool) (t0 t1 : Vector3f) (r0 r1 : Quaternion) (s0 s1 : Matrix4x4) (S : Transform) (dt : Float)
    (e : Matrix4x4-to_rows S.m ≡ lerp_scale_by k (Matrix4x4-to_rows s0) (Matrix4x4-to_rows s1) dt) where
  pub point-composition : (p : Point3f) → Finite p → (Pose-matrix (PoseConstants-new k t0 t1 r0 r1) s0 s1 dt).refusal ≡ 0
      → Transform-transform_point (composition t0 t1 r0 r1 S dt) p ≡ Pose-moved_point (PoseConstants-new k t0 t1 r0 r1) s0 s1 dt p
  point-composition p f z =
      let a = PoseConstants-new k t0 t1 r0 r1 in
      let M = (Pose-matrix a s0 s1 dt).m in
      let h : (composition t0 t1 r0 r1 S dt).m ≡ M = matrix-composition k t0 t1 r0 r1 s0 s1 S dt e z in
      let i = affine-bottom M (accepted-bottom a s0 s1 dt z) in
      point-affine (composition t0 t1 r0 r1 S dt) p (rw h i) f
      ∙ ap (λ (m : Matrix4x4). PointAnswer-judged (Pose-transform_point m p)) h
      ∙ answered a s0 s1 dt p z
    where
      answered : (a : PoseConstants) (s0 s1 : Matrix4x4) (dt : Float) (p : Point3f) → (Pose-matrix a s0 s1 dt).refusal ≡ 0
          → PointAnswer-judged (Pose-transform_point (Pose-matrix a s0 s1 dt).m p) ≡ Pose-moved_point a s0 s1 dt p
      answered a s0 s1 dt p z = unfold Pose-moved_point PointAnswer-judged in rw z
