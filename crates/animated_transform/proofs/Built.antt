-- What building has judged of a built move (`built-judged`): its times, poses, parts, dot product, coefficients and pads are finite, and the dot product and
-- the pads are at least 0.
use mathlib.Core.Path.{◌≡◌, refl, sym, ap, subst, ◌∙◌}
use mathlib.Core.Bool.{Bool, true, false, not, ◌&&◌, ◌||◌, cond}
use Prim.Native.Nat.{ℕ, suc}
use native.Mathlib.Omega.{arith}
use borrow.Author.Tests.{eqb-true, eqb-false}
use lib.Dec.{T, eqb}
use lib.Ieee.{Float, nan, inf, fin, binary32, fits, of_bits, neg, lt}
use lib.Ieee.Fits.{and_l, and_r}
use lib.Ieee.Scale.{finite}
use Rattle.std.specs.Prelude.{Result, Ok, Err, IfOk}
use Rattle.refusal.specs.declared.Refusal.{Refusal}
use Rattle.refusal.proofs.First.{first-zero}
use Rattle.refusal.proofs.Number.{number-nonzero}
use Rattle.refusal.specs.First.{first_refusal}
use Rattle.matrix4x4.specs.float32.Operators.{◌⊖◌}
use Rattle.vector3.specs.declared.Vector3f.{Vector3f}
use Rattle.matrix4x4.specs.declared.Matrix4x4.{Matrix4x4}
use Rattle.matrix4x4.specs.Rows.{positive_zero, Matrix4x4-to_rows}
use Rattle.matrix4x4.specs.IsFinite.{Matrix4x4-is_finite}
use Rattle.matrix4x4.specs.IsAffine.{Matrix4x4-is_affine}
use Rattle.transform.specs.matrix_inverse.Inverse.{Matrix4x4-inverse}
use Rattle.transform.specs.declared.Transform.{Transform}
use Rattle.transform.specs.Transform.{Transform-from_matrix}
use Rattle.transform.proofs.FromMatrix.{from-matrix-refusal, from-matrix-accepted, from-matrix-finite}
use Rattle.quaternion.specs.declared.Quaternion.{Quaternion}
use Rattle.quaternion.specs.Quaternion.{Quaternion-dot, Quaternion-neg}
use Rattle.quaternion.specs.Slerp.{slerp_threshold}
use Rattle.quaternion.specs.IsFinite.{Quaternion-is_finite}
use Rattle.decomposition.specs.Decompose.{DecompositionAnswer}
use Rattle.decomposition.specs.Decompose.{Matrix4x4-decompose}
use Rattle.decomposition.proofs.Refusal.{Accepted, decompose-accepted}
use Rattle.coefficients.specs.declared.Coefficients.{Coefficients}
use Rattle.coefficients.specs.Coefficients.{Coefficients-zero}
use Rattle.coefficients.specs.axis_derivative.IsFinite.{DerivativeTerm-is_finite, Derivative-is_finite}
use Rattle.coefficients.specs.IsFinite.{Coefficients-is_finite}
use Rattle.pose_pair.specs.declared.Pose.{Pose}
use Rattle.animated_transform.specs.declared.AnimatedTransform.{AnimatedTransform}
use Rattle.animated_transform.specs.New.{AnimatedTransformAnswer, AnimatedTransformAnswer-of_result}
use Rattle.rotation_arc.specs.ArcCoefficients.{CoefficientsAnswer}
use Rattle.pose_pair.specs.Pose.{Pose-is_finite, Pose-is_binary32, Pose-is_affine, Pose-is_padded, times_refusal, poses_refusal, Pose-kind_number}
use Rattle.rotation_arc.specs.ShorterArc.{flip, dots_refusal}
use Rattle.rotation_arc.specs.ArcCoefficients.{CoefficientsAnswer-judged, rotation_coefficients, pair_coefficients}
use Rattle.animated_transform.specs.New.{AnimatedTransformAnswer-refused, AnimatedTransform-of_fields, AnimatedTransform-from_parts}
use Rattle.animated_transform.specs.New.{AnimatedTransform-from_poses, build_refusal, AnimatedTransform-new}
use Rattle.animated_transform.specs.Built.{Built, StoredPose, Pad-Judged, AnimatedTransform-Judged}
use Rattle.rotation_arc.proofs.DotProduct.{dot-after-flip}

-- ---- a number that was not met
not-refused : (n : ℕ) (a : AnimatedTransformAnswer) (m : AnimatedTransform)
    → cond (eqb n 0) a (AnimatedTransformAnswer-refused n) ≡ record { value = m; refusal = 0 } → (n ≡ 0) × (a ≡ record { value = m; refusal = 0 })
not-refused n a m = go (eqb n 0) refl
  where
    go : (b : Bool) → eqb n 0 ≡ b → cond b a (AnimatedTransformAnswer-refused n) ≡ record { value = m; refusal = 0 }
        → (n ≡ 0) × (a ≡ record { value = m; refusal = 0 })
    go true e h = (eqb-true n 0 e, h)
    go false e h = absurd (eqb-false n 0 e (ap (λ (x : AnimatedTransformAnswer). x.refusal) h))

passed : (b : Bool) (k n : ℕ) → cond (not b) (suc k) n ≡ 0 → T b × (n ≡ 0)
passed true k n h = (tt, h)
passed false k n h = absurd (omega arith)

-- ---- the poses
record Times (t u : Float) : Type 0 where
  rise : T (not (lt u t))
  duration : T (finite (u ⊖ t))

times-passed : (t u : Float) → times_refusal t u ≡ 0 → Times t u
unfolding times_refusal
times-passed t u = go (lt u t) (finite (u ⊖ t)) (λ h. h) (λ h. h)
  where
    go : (a b : Bool) → (T (not a) → T (not (lt u t))) → (T b → T (finite (u ⊖ t))) → ◌≡◌ {A = ℕ} (cond (a || not b) 3 0) 0 → Times t u
    go true b f g h = absurd (omega arith)
    go false false f g h = absurd (omega arith)
    go false true f g h = record { rise = f tt; duration = g tt }

record PosePassed (p : Pose) : Type 0 where
  time : T (finite p.time)
  binary32-time : T (fits binary32 p.time)
  matrix : T (Matrix4x4-is_finite (Matrix4x4-to_rows p.m))
  affine : T (Matrix4x4-is_affine (Matrix4x4-to_rows p.m))
  pad : Pad-Judged p.pad

pose-passed : (p : Pose) → T (Pose-is_binary32 p) → T (Pose-is_finite p) → T (Pose-is_affine p) → T (Pose-is_padded p) → PosePassed p
unfolding Pose-is_finite Pose-is_affine Pose-is_padded
pose-passed p b f a z =
    let time = finite p.time in
    let matrix = Matrix4x4-is_finite (Matrix4x4-to_rows p.m) in
    let pad = finite p.pad in
    let t = and_l (time && matrix) pad f in
    record {
      time = and_l time matrix t;
      binary32-time = and_l (fits binary32 p.time) (fits binary32 p.pad) b;
      matrix = and_r time matrix t;
      affine = a;
      pad = record {
        finite = and_r (time && matrix) pad f;
        binary32 = and_r (fits binary32 p.time) (fits binary32 p.pad) b;
        at-least-zero = record { holds = z };
      };
    }

record PosesPassed (start end : Pose) : Type 0 where
  start-pose : PosePassed start
  end-pose : PosePassed end
  times : Times start.time end.time

poses-passed : (start end : Pose) → T (Pose-is_binary32 start) → T (Pose-is_binary32 end) → poses_refusal start end ≡ 0 → PosesPassed start end
unfolding poses_refusal
poses-passed start end t u h =
    let f = passed (Pose-is_finite start && Pose-is_finite end) 0 _ h in
    let a = passed (Pose-is_affine start && Pose-is_affine end) 1 _ f.1 in
    let z = passed (Pose-is_padded start && Pose-is_padded end) 15 _ a.1 in
    record {
      start-pose = pose-passed start t (and_l (Pose-is_finite start) (Pose-is_finite end) f.0)
          (and_l (Pose-is_affine start) (Pose-is_affine end) a.0) (and_l (Pose-is_padded start) (Pose-is_padded end) z.0);
      end-pose = pose-passed end u (and_r (Pose-is_finite start) (Pose-is_finite end) f.0)
          (and_r (Pose-is_affine start) (Pose-is_affine end) a.0) (and_r (Pose-is_padded start) (Pose-is_padded end) z.0);
      times = times-passed start.time end.time z.1;
    }

record Stored (p : Pose) (t : Transform) : Type 0 where
  same : t.m ≡ p.m
  stored : StoredPose t

stored : (p : Pose) → PosePassed p → (Transform-from_matrix (Matrix4x4-to_rows p.m)).refusal ≡ 0
    → Stored p (Transform-from_matrix (Matrix4x4-to_rows p.m)).transform
stored p h e =
    let m = Matrix4x4-to_rows p.m in
    let i : (Matrix4x4-inverse m).refusal ≡ 0 = sym (from-matrix-refusal m) ∙ e in
    rw (from-matrix-accepted m i) (record { same = refl; stored = record { affine = h.affine; matrix = h.matrix; inverse = from-matrix-finite m i } })

-- ---- the pair
finite-neg : (x : Float) → finite (neg x) ≡ finite x
unfolding neg
finite-neg nan = refl
finite-neg (inf s) = refl
finite-neg (fin s m e) = refl

neg-finite : (q : Quaternion) → T (Quaternion-is_finite q) → T (Quaternion-is_finite (Quaternion-neg q))
unfolding Quaternion-is_finite Quaternion-neg
neg-finite q h = rw (finite-neg q.v.x, finite-neg q.v.y, finite-neg q.v.z, finite-neg q.w) h

flip-finite : (r0 r1 : Quaternion) → T (Quaternion-is_finite r1) → T (Quaternion-is_finite (flip r0 r1))
unfolding flip
flip-finite r0 r1 h = go (lt (Quaternion-dot r0 r1) positive_zero)
  where
    go : (b : Bool) → T (Quaternion-is_finite (cond b (Quaternion-neg r1) r1))
    go true = neg-finite r1 h
    go false = h

record Dots (d e : Float) : Type 0 where
  before : T (finite d)
  after : T (finite e)

dots-passed : (d e : Float) → dots_refusal d e ≡ 0 → Dots d e
unfolding dots_refusal
dots-passed d e = go (finite d) (finite e) (λ h. h) (λ h. h)
  where
    go : (a b : Bool) → (T a → T (finite d)) → (T b → T (finite e)) → ◌≡◌ {A = ℕ} (cond (a && b) 0 5) 0 → Dots d e
    go true true f g h = record { before = f tt; after = g tt }
    go true false f g h = absurd (omega arith)
    go false b f g h = absurd (omega arith)

judged-passed : (q : Quaternion) (c : Coefficients) → (CoefficientsAnswer-judged q c).refusal ≡ 0
    → T (Coefficients-is_finite (CoefficientsAnswer-judged q c).value)
unfolding CoefficientsAnswer-judged
judged-passed q c = go (Quaternion-is_finite q && Coefficients-is_finite c) (and_r (Quaternion-is_finite q) (Coefficients-is_finite c))
  where
    answer : Bool → CoefficientsAnswer
    answer b = cond b (record { value = c; refusal = 0 }) (record { value = Coefficients-zero; refusal = 5 })

    go : (b : Bool) → (T b → T (Coefficients-is_finite c)) → (answer b).refusal ≡ 0 → T (Coefficients-is_finite (answer b).value)
    go true f h = f tt
    go false f h = absurd (omega arith)

coefficients-passed : (b : Bool) (t0 t1 : Vector3f) (r0 r1 : Quaternion) (s0 s1 : Matrix4x4) (c : Float)
    → (pair_coefficients b t0 t1 r0 r1 s0 s1 c).refusal ≡ 0 → T (Coefficients-is_finite (pair_coefficients b t0 t1 r0 r1 s0 s1 c).value)
unfolding pair_coefficients rotation_coefficients Coefficients-is_finite Derivative-is_finite DerivativeTerm-is_finite of_bits
coefficients-passed true t0 t1 r0 r1 s0 s1 c h = judged-passed _ _ h
coefficients-passed false t0 t1 r0 r1 s0 s1 c h = tt

-- ---- the move
module _ (rigid : Bool) (start end : Pose) (poses : PosesPassed start end) (a b : Transform) (sa : Stored start a) (sb : Stored end b)
    (p q : DecompositionAnswer) (dp : Accepted (Matrix4x4-to_rows start.m) p) (dq : Accepted (Matrix4x4-to_rows end.m) q) where
  from-parts-judged : (m : AnimatedTransform)
      → AnimatedTransform-from_parts rigid start end a b p q ≡ record { value = m; refusal = 0 } → AnimatedTransform-Judged m
  unfolding AnimatedTransform-from_parts
  from-parts-judged m h =
      let r1 = flip p.r q.r in
      let cosθ = Quaternion-dot p.r r1 in
      let has_rotation = lt cosθ slerp_threshold in
      let c = pair_coefficients has_rotation p.t q.t p.r r1 p.s q.s cosθ in
      let d = dots_refusal (Quaternion-dot p.r q.r) cosθ in
      let answer : AnimatedTransformAnswer = record { value = AnimatedTransform-of_fields rigid start end a b p q r1 c.value; refusal = 0 } in
      let g = not-refused (first_refusal d c.refusal) answer m h in
      let n = first-zero d c.refusal g.0 in
      let dots = dots-passed (Quaternion-dot p.r q.r) cosθ n.0 in
      subst (λ (x : AnimatedTransformAnswer). AnimatedTransform-Judged x.value) g.1
      (record {
        start-time = poses.start-pose.time;
        end-time = poses.end-pose.time;
        start-binary32 = poses.start-pose.binary32-time;
        end-binary32 = poses.end-pose.binary32-time;
        times-rise = poses.times.rise;
        duration = poses.times.duration;
        start = sa.stored;
        end = sb.stored;
        animated = refl;
        t0 = rw sa.same dp.translation;
        t1 = rw sb.same dq.translation;
        r0 = dp.rotation;
        r1 = flip-finite p.r q.r dq.rotation;
        s0 = dp.scale;
        s1 = dq.scale;
        dot = dots.after;
        dot-sign = dot-after-flip p.r q.r dots.before dots.after;
        rotation = refl;
        coefficients = coefficients-passed has_rotation p.t q.t p.r r1 p.s q.s cosθ n.1;
        pad0 = poses.start-pose.pad;
        pad1 = poses.end-pose.pad;
      })

from-poses-judged : (rigid : Bool) (start end : Pose) → PosesPassed start end → (m : AnimatedTransform)
    → AnimatedTransform-from_poses rigid start end ≡ record { value = m; refusal = 0 } → AnimatedTransform-Judged m
unfolding AnimatedTransform-from_poses
from-poses-judged rigid start end poses m h =
    let m0 = Matrix4x4-to_rows start.m in
    let m1 = Matrix4x4-to_rows end.m in
    let a = Transform-from_matrix m0 in
    let b = Transform-from_matrix m1 in
    let p = Matrix4x4-decompose rigid m0 in
    let q = Matrix4x4-decompose rigid m1 in
    let inverses = first_refusal a.refusal b.refusal in
    let parts = first_refusal p.refusal q.refusal in
    let g = not-refused (first_refusal inverses parts) (AnimatedTransform-from_parts rigid start end a.transform b.transform p q) m h in
    let n = first-zero inverses parts g.0 in
    let i = first-zero a.refusal b.refusal n.0 in
    let d = first-zero p.refusal q.refusal n.1 in
    from-parts-judged rigid start end poses a.transform b.transform (stored start poses.start-pose i.0) (stored end poses.end-pose i.1)
    p q (decompose-accepted rigid m0 d.0) (decompose-accepted rigid m1 d.1) m g.1

pub built-judged : {m : AnimatedTransform} → Built m → AnimatedTransform-Judged m
unfolding AnimatedTransform-new
built-judged {m} b =
    let k = first_refusal (Pose-kind_number b.rigid b.start) (Pose-kind_number b.rigid b.end) in
    let g = not-refused (build_refusal b.rigid b.start b.end) (AnimatedTransform-from_poses b.rigid b.start b.end) m b.accepted in
    let n = first-zero (poses_refusal b.start b.end) k g.0 in
    from-poses-judged b.rigid b.start b.end (poses-passed b.start b.end b.start-binary32 b.end-binary32 n.0) m g.1

-- What isn't refused is a built move, since f32 times and pads are binary32.
pub new-built : (a : Result AnimatedTransform Refusal) (rigid : Bool) (start end : Pose)
    → fits binary32 start.time ≡ true → fits binary32 start.pad ≡ true → fits binary32 end.time ≡ true → fits binary32 end.pad ≡ true
    → AnimatedTransformAnswer-of_result a ≡ AnimatedTransform-new rigid start end → IfOk a Built
new-built (Err r) rigid start end f f' g g' e = tt
new-built (Ok m) rigid start end f f' g g' e = record {
  rigid = rigid;
  start = start;
  end = end;
  start-binary32 = fitting f f';
  end-binary32 = fitting g g';
  accepted = sym e;
}
  where
    fitting : {x y : Bool} → x ≡ true → y ≡ true → T (x && y)
    fitting {x} {y} h k = rw (h, k) tt

-- The same of the answer's record.
pub answered-built : (a : Result AnimatedTransform Refusal) → IfOk a Built
    → (AnimatedTransformAnswer-of_result a).refusal ≡ 0 → Built (AnimatedTransformAnswer-of_result a).value
answered-built (Ok m) b z = b
answered-built (Err r) b z = absurd (number-nonzero r z)
