-- The numbers that building can give are 0 to 5 and 16, of a rigid move also 17 and 18 (`new-refusal`), but not 2 where both bottom rows are
-- right (`new-affine`), and after a refusal every number is +0 and every yes or no is no (`new-refused`). Those of its work are 0, 4 and 5.
use mathlib.Core.Path.{◌≡◌, refl}
use mathlib.Core.Bool.{Bool, true, false, not, ◌&&◌, ◌||◌, cond}
use mathlib.Core.Logic.{◌⊎◌, inl, inr}
use Prim.Native.Nat.{ℕ}
use native.Mathlib.Omega.{arith}
use lib.Dec.{T, eqb}
use lib.Ieee.{Float, lt}
use lib.Ieee.Scale.{finite}
use Rattle.refusal.proofs.First.{first-keeps}
use Rattle.refusal.specs.First.{first_refusal}
use Rattle.matrix4x4.specs.float32.Operators.{◌⊖◌}
use Rattle.vector3.specs.declared.Vector3f.{Vector3f}
use Rattle.quaternion.specs.declared.Quaternion.{Quaternion}
use Rattle.quaternion.specs.Quaternion.{Quaternion-dot}
use Rattle.quaternion.specs.Slerp.{slerp_threshold}
use Rattle.quaternion.specs.IsFinite.{Quaternion-is_finite}
use Rattle.matrix4x4.specs.declared.Matrix4x4.{Matrix4x4}
use Rattle.matrix4x4.specs.Rows.{Matrix4x4-to_rows}
use Rattle.transform.specs.declared.Transform.{Transform}
use Rattle.transform.specs.Answer.{OneOf}
use Rattle.transform.specs.Transform.{Transform-from_matrix}
use Rattle.transform.proofs.FromMatrix.{from-matrix-numbers}
use Rattle.decomposition.specs.Decompose.{DecompositionAnswer}
use Rattle.decomposition.specs.Decompose.{Matrix4x4-decompose}
use Rattle.decomposition.proofs.Refusal.{decompose-refusal}
use Rattle.coefficients.specs.declared.Coefficients.{Coefficients}
use Rattle.coefficients.specs.Coefficients.{Coefficients-zero}
use Rattle.coefficients.specs.IsFinite.{Coefficients-is_finite}
use Rattle.pose_pair.specs.declared.Pose.{Pose}
use Rattle.pose_pair.proofs.Kind.{kind-each}
use Rattle.animated_transform.specs.New.{AnimatedTransformAnswer}
use Rattle.rotation_arc.specs.ArcCoefficients.{CoefficientsAnswer}
use Rattle.pose_pair.specs.Pose.{Pose-is_finite, Pose-is_affine, Pose-is_padded, times_refusal, poses_refusal, Pose-kind_number}
use Rattle.rotation_arc.specs.ShorterArc.{flip, dots_refusal}
use Rattle.rotation_arc.specs.ArcCoefficients.{CoefficientsAnswer-judged, rotation_coefficients, pair_coefficients}
use Rattle.animated_transform.specs.New.{AnimatedTransformAnswer-refused, AnimatedTransform-of_fields, AnimatedTransform-from_parts}
use Rattle.animated_transform.specs.New.{AnimatedTransform-from_poses, build_refusal, AnimatedTransform-new}
use Rattle.animated_transform.specs.Numbers.{build_numbers}

-- ---- the numbers
-- 4 and 5 of the work, 0 being none
abbrev Worked : ℕ → Type 0
Worked n = (n ≡ 0) ⊎ ((n ≡ 4) ⊎ (n ≡ 5))

-- what holds of both holds of either
chosen : (P : ℕ → Type 0) (b : Bool) (m n : ℕ) → P m → P n → P (cond b m n)
chosen P true m n p q = p
chosen P false m n p q = q

-- 0 to 5 and 16, and of a rigid move 17 and 18
abbrev Numbered : Bool → ℕ → Type 0
Numbered rigid n = OneOf n (build_numbers rigid)

worked-numbered : (rigid : Bool) (n : ℕ) → Worked n → Numbered rigid n
worked-numbered rigid n (inl e) = inl e
worked-numbered rigid n (inr (inl e)) = inr (inr (inr (inr (inl e))))
worked-numbered rigid n (inr (inr e)) = inr (inr (inr (inr (inr (inl e)))))

worked-not-two : (n : ℕ) → Worked n → n ≡ 2 → ⊥
worked-not-two n (inl e) h = absurd (omega (arith, e, h))
worked-not-two n (inr (inl e)) h = absurd (omega (arith, e, h))
worked-not-two n (inr (inr e)) h = absurd (omega (arith, e, h))

times-three : (P : ℕ → Type 0) (t u : Float) → P 0 → P 3 → P (times_refusal t u)
unfolding times_refusal
times-three P t u p q = chosen P (lt u t || not (finite (u ⊖ t))) 3 0 q p

-- 1, 2, 16 and 3, 0 being none
poses-numbers : (P : ℕ → Type 0) (start end : Pose) → P 0 → P 1 → P 2 → P 16 → P 3 → P (poses_refusal start end)
unfolding poses_refusal
poses-numbers P start end none one two sixteen three =
    chosen P (not (Pose-is_finite start && Pose-is_finite end)) 1 _ one
    (chosen P (not (Pose-is_affine start && Pose-is_affine end)) 2 _ two
    (chosen P (not (Pose-is_padded start && Pose-is_padded end)) 16 _ sixteen (times-three P start.time end.time none three)))

poses-number : (rigid : Bool) (start end : Pose) → Numbered rigid (poses_refusal start end)
poses-number rigid start end =
    poses-numbers (Numbered rigid) start end (inl refl) (inr (inl refl)) (inr (inr (inl refl)))
    (inr (inr (inr (inr (inr (inr (inl refl))))))) (inr (inr (inr (inl refl))))

-- what is asked before anything is worked
asked-numbers : (P : ℕ → Type 0) (rigid : Bool) (start end : Pose) → P (poses_refusal start end)
    → P 0 → (T rigid → P 17) → (T rigid → P 18) → P (build_refusal rigid start end)
asked-numbers P rigid start end poses none seventeen eighteen =
    let s = Pose-kind_number rigid start in
    let e = Pose-kind_number rigid end in
    chosen P (eqb (poses_refusal start end) 0) (first_refusal s e) (poses_refusal start end)
    (chosen P (eqb s 0) e s (kind-each P rigid end none seventeen eighteen) (kind-each P rigid start none seventeen eighteen))
    poses

-- 2 is met where a bottom row is wrong, and only there.
poses-affine : (start end : Pose) → Pose-is_affine start ≡ true → Pose-is_affine end ≡ true → poses_refusal start end ≡ 2 → ⊥
unfolding poses_refusal
poses-affine start end a b =
    rw (a, b)
    (chosen Not2 (not (Pose-is_finite start && Pose-is_finite end)) 1 _ (λ e. absurd (omega (arith, e)))
    (chosen Not2 (not (Pose-is_padded start && Pose-is_padded end)) 16 _ (λ e. absurd (omega (arith, e)))
    (times-three Not2 start.time end.time (λ e. absurd (omega (arith, e))) (λ e. absurd (omega (arith, e))))))
  where
    Not2 : ℕ → Type 0
    Not2 n = n ≡ 2 → ⊥

dots-number : (d e : Float) → Worked (dots_refusal d e)
unfolding dots_refusal
dots-number d e = chosen Worked (finite d && finite e) 0 5 (inl refl) (inr (inr refl))

judged-number : (q : Quaternion) (c : Coefficients) → Worked (CoefficientsAnswer-judged q c).refusal
unfolding CoefficientsAnswer-judged
judged-number q c = go (Quaternion-is_finite q && Coefficients-is_finite c)
  where
    go : (b : Bool) → Worked (cond {A = CoefficientsAnswer} b (record { value = c; refusal = 0 }) (record { value = Coefficients-zero; refusal = 5 })).refusal
    go true = inl refl
    go false = inr (inr refl)

coefficients-number : (b : Bool) (t0 t1 : Vector3f) (r0 r1 : Quaternion) (s0 s1 : Matrix4x4) (c : Float)
    → Worked (pair_coefficients b t0 t1 r0 r1 s0 s1 c).refusal
unfolding pair_coefficients rotation_coefficients
coefficients-number true t0 t1 r0 r1 s0 s1 c = judged-number _ _
coefficients-number false t0 t1 r0 r1 s0 s1 c = inl refl

first-number : (m n : ℕ) → Worked m → Worked n → Worked (first_refusal m n)
first-number m n p q = first-keeps Worked m n p q

-- ---- the answers
-- An answer has a number of P's, and is the refused answer with that number unless it is 0.
record Answered (P : ℕ → Type 0) (a : AnimatedTransformAnswer) : Type 0 where
  number : P a.refusal
  zero : (a.refusal ≡ 0 → ⊥) → a ≡ AnimatedTransformAnswer-refused a.refusal

-- what follows a number that was not met
after : (P : ℕ → Type 0) (n : ℕ) (a : AnimatedTransformAnswer) → P n → Answered P a → Answered P (cond (eqb n 0) a (AnimatedTransformAnswer-refused n))
after P n a h k = go (eqb n 0)
  where
    go : (b : Bool) → Answered P (cond b a (AnimatedTransformAnswer-refused n))
    go true = k
    go false = record { number = h; zero = λ _. refl }

from-parts-answered : (rigid : Bool) (start end : Pose) (a b : Transform) (p q : DecompositionAnswer)
    → Answered Worked (AnimatedTransform-from_parts rigid start end a b p q)
unfolding AnimatedTransform-from_parts
from-parts-answered rigid start end a b p q =
    let r1 = flip p.r q.r in
    let cosθ = Quaternion-dot p.r r1 in
    let has_rotation = lt cosθ slerp_threshold in
    let c = pair_coefficients has_rotation p.t q.t p.r r1 p.s q.s cosθ in
    let d = dots_refusal (Quaternion-dot p.r q.r) cosθ in
    after Worked (first_refusal d c.refusal) (record { value = AnimatedTransform-of_fields rigid start end a b p q r1 c.value; refusal = 0 })
    (first-number d c.refusal (dots-number (Quaternion-dot p.r q.r) cosθ) (coefficients-number has_rotation p.t q.t p.r r1 p.s q.s cosθ))
    (record { number = inl refl; zero = λ z. absurd (z refl) })

from-poses-answered : (rigid : Bool) (start end : Pose) → Answered Worked (AnimatedTransform-from_poses rigid start end)
unfolding AnimatedTransform-from_poses
from-poses-answered rigid start end =
    let m0 = Matrix4x4-to_rows start.m in
    let m1 = Matrix4x4-to_rows end.m in
    let a = Transform-from_matrix m0 in
    let b = Transform-from_matrix m1 in
    let p = Matrix4x4-decompose rigid m0 in
    let q = Matrix4x4-decompose rigid m1 in
    let inverses = first_refusal a.refusal b.refusal in
    let parts = first_refusal p.refusal q.refusal in
    after Worked (first_refusal inverses parts) (AnimatedTransform-from_parts rigid start end a.transform b.transform p q)
    (first-number inverses parts
    (first-number a.refusal b.refusal (from-matrix-numbers m0) (from-matrix-numbers m1))
    (first-number p.refusal q.refusal (decompose-refusal rigid m0) (decompose-refusal rigid m1)))
    (from-parts-answered rigid start end a.transform b.transform p q)

new-answered : (P : ℕ → Type 0) (rigid : Bool) (start end : Pose) → P (build_refusal rigid start end) → ((n : ℕ) → Worked n → P n)
    → Answered P (AnimatedTransform-new rigid start end)
unfolding AnimatedTransform-new
new-answered P rigid start end h k =
    let w = from-poses-answered rigid start end in
    after P (build_refusal rigid start end) (AnimatedTransform-from_poses rigid start end) h
    (record { number = k (AnimatedTransform-from_poses rigid start end).refusal w.number; zero = w.zero })

new-numbered : (rigid : Bool) (start end : Pose) → Answered (Numbered rigid) (AnimatedTransform-new rigid start end)
new-numbered rigid start end =
    new-answered (Numbered rigid) rigid start end
    (asked-numbers (Numbered rigid) rigid start end (poses-number rigid start end) (inl refl) (seventeen rigid) (eighteen rigid))
    (worked-numbered rigid)
  where
    seventeen : (b : Bool) → T b → Numbered b 17
    seventeen true h = inr (inr (inr (inr (inr (inr (inr (inl refl)))))))
    seventeen false h = elim h [ ]

    eighteen : (b : Bool) → T b → Numbered b 18
    eighteen true h = inr (inr (inr (inr (inr (inr (inr (inr (inl refl))))))))
    eighteen false h = elim h [ ]

pub new-refusal : (rigid : Bool) (start end : Pose) → OneOf (AnimatedTransform-new rigid start end).refusal (build_numbers rigid)
new-refusal rigid start end = (new-numbered rigid start end).number

pub new-affine : (rigid : Bool) (start end : Pose) → Pose-is_affine start ≡ true
    → Pose-is_affine end ≡ true → (AnimatedTransform-new rigid start end).refusal ≡ 2 → ⊥
new-affine rigid start end a b =
    (new-answered (λ n. n ≡ 2 → ⊥) rigid start end
    (asked-numbers (λ n. n ≡ 2 → ⊥) rigid start end (poses-affine start end a b)
    (λ e. absurd (omega (arith, e))) (λ t e. absurd (omega (arith, e))) (λ t e. absurd (omega (arith, e))))
    worked-not-two).number

pub new-refused : (rigid : Bool) (start end : Pose) → ((AnimatedTransform-new rigid start end).refusal ≡ 0 → ⊥)
    → AnimatedTransform-new rigid start end ≡ AnimatedTransformAnswer-refused (AnimatedTransform-new rigid start end).refusal
new-refused rigid start end = (new-numbered rigid start end).zero
