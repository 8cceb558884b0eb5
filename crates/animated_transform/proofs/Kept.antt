-- A move that isn't refused keeps its kind and its poses' times and pads: `new-kept`, `built-kept`.
use Prim.Native.Nat.{ℕ}
use mathlib.Core.Path.{◌≡◌, refl, subst}
use mathlib.Core.Bool.{Bool, true, false, cond}
use borrow.Author.Tests.{eqb-false}
use lib.Dec.{eqb}
use lib.Ieee.{lt}
use Rattle.refusal.specs.First.{first_refusal}
use Rattle.matrix4x4.specs.Rows.{Matrix4x4-to_rows}
use Rattle.transform.specs.declared.Transform.{Transform}
use Rattle.transform.specs.Transform.{Transform-from_matrix}
use Rattle.quaternion.specs.Quaternion.{Quaternion-dot}
use Rattle.quaternion.specs.Slerp.{slerp_threshold}
use Rattle.decomposition.specs.Decompose.{DecompositionAnswer}
use Rattle.decomposition.specs.Decompose.{Matrix4x4-decompose}
use Rattle.rotation_arc.specs.ShorterArc.{flip, dots_refusal}
use Rattle.rotation_arc.specs.ArcCoefficients.{pair_coefficients}
use Rattle.pose_pair.specs.declared.Pose.{Pose}
use Rattle.animated_transform.specs.declared.AnimatedTransform.{AnimatedTransform}
use Rattle.animated_transform.specs.New.{AnimatedTransformAnswer}
use Rattle.animated_transform.specs.New.{AnimatedTransformAnswer-refused, AnimatedTransform-of_fields, AnimatedTransform-from_parts}
use Rattle.animated_transform.specs.New.{AnimatedTransform-from_poses, build_refusal, AnimatedTransform-new}
use Rattle.animated_transform.specs.Built.{Built}

pub record Kept (rigid : Bool) (start end : Pose) (m : AnimatedTransform) : Type 0 where
  pub start-time : m.start_time ≡ start.time
  pub end-time : m.end_time ≡ end.time
  pub start-pad : m.pad0 ≡ start.pad
  pub end-pad : m.pad1 ≡ end.pad
  pub kind : m.rigid ≡ rigid

abbrev AnswerKept : Bool → Pose → Pose → AnimatedTransformAnswer → Type 0
AnswerKept rigid start end a = a.refusal ≡ 0 → Kept rigid start end a.value

-- behind a number that was tested
tested-kept : (rigid : Bool) (start end : Pose) (n : ℕ) (a : AnimatedTransformAnswer) → AnswerKept rigid start end a
    → AnswerKept rigid start end (cond (eqb n 0) a (AnimatedTransformAnswer-refused n))
tested-kept rigid start end n a h = go (eqb n 0) (eqb-false n 0)
  where
    go : (b : Bool) → (b ≡ false → n ≡ 0 → ⊥) → AnswerKept rigid start end (cond b a (AnimatedTransformAnswer-refused n))
    go true f e = h e
    go false f e = absurd (f refl e)

from-parts-kept : (rigid : Bool) (start end : Pose) (a b : Transform) (p q : DecompositionAnswer)
    → AnswerKept rigid start end (AnimatedTransform-from_parts rigid start end a b p q)
unfolding AnimatedTransform-from_parts
from-parts-kept rigid start end a b p q =
    let r1 = flip p.r q.r in
    let cosθ = Quaternion-dot p.r r1 in
    let c = pair_coefficients (lt cosθ slerp_threshold) p.t q.t p.r r1 p.s q.s cosθ in
    let n = first_refusal (dots_refusal (Quaternion-dot p.r q.r) cosθ) c.refusal in
    tested-kept rigid start end n (record { value = AnimatedTransform-of_fields rigid start end a b p q r1 c.value; refusal = 0 })
    (λ _. record { start-time = refl; end-time = refl; start-pad = refl; end-pad = refl; kind = refl })

from-poses-kept : (rigid : Bool) (start end : Pose) → AnswerKept rigid start end (AnimatedTransform-from_poses rigid start end)
unfolding AnimatedTransform-from_poses
from-poses-kept rigid start end =
    let a = Transform-from_matrix (Matrix4x4-to_rows start.m) in
    let b = Transform-from_matrix (Matrix4x4-to_rows end.m) in
    let p = Matrix4x4-decompose rigid (Matrix4x4-to_rows start.m) in
    let q = Matrix4x4-decompose rigid (Matrix4x4-to_rows end.m) in
    let n = first_refusal (first_refusal a.refusal b.refusal) (first_refusal p.refusal q.refusal) in
    tested-kept rigid start end n (AnimatedTransform-from_parts rigid start end a.transform b.transform p q)
    (from-parts-kept rigid start end a.transform b.transform p q)

pub new-kept : (rigid : Bool) (start end : Pose) → (AnimatedTransform-new rigid start end).refusal ≡ 0
    → Kept rigid start end (AnimatedTransform-new rigid start end).value
unfolding AnimatedTransform-new
new-kept rigid start end =
    tested-kept rigid start end (build_refusal rigid start end) (AnimatedTransform-from_poses rigid start end) (from-poses-kept rigid start end)

pub built-kept : {m : AnimatedTransform} (b : Built m) → Kept b.rigid b.start b.end m
built-kept b = subst (AnswerKept b.rigid b.start b.end) b.accepted (new-kept b.rigid b.start b.end) refl
