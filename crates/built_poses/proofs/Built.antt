-- A built chain's poses are those that it was built from, and its kind is: `built-poses`, `built-pairs`, `built-kind`.
-- Every move stores the times, the matrices and the pads of its two poses: `new-poses`.
use Prim.Native.Nat.{ℕ}
use mathlib.Core.Path.{◌≡◌, refl, sym, ap, ◌∙◌}
use mathlib.Core.Bool.{Bool, true, false, cond}
use mathlib.Core.List.{List, [], ◌∷◌, map}
use borrow.Author.Tests.{eqb-true, eqb-false}
use lib.Dec.{eqb}
use lib.Ieee.{lt}
use Rattle.chain_poses.proofs.refusal_below.First.{first-zero}
use Rattle.chain_poses.specs.refusal_below.First.{first_refusal}
use Rattle.chain_poses.specs.matrix4x4.declared.Matrix4x4.{Matrix4x4}
use Rattle.chain_poses.specs.matrix4x4.Rows.{Matrix4x4-to_rows}
use Rattle.chain_poses.specs.transform.declared.Transform.{Transform}
use Rattle.chain_poses.specs.transform.Transform.{TransformAnswer}
use Rattle.chain_poses.specs.transform.Transform.{Transform-from_matrix}
use Rattle.chain_poses.proofs.transform.FromMatrix.{from-matrix-refusal, from-matrix-accepted}
use Rattle.chain_poses.specs.quaternion.Quaternion.{Quaternion-dot}
use Rattle.chain_poses.specs.quaternion.Slerp.{slerp_threshold}
use Rattle.chain_poses.specs.decomposition.Decompose.{DecompositionAnswer}
use Rattle.chain_poses.specs.decomposition.Decompose.{Matrix4x4-decompose}
use Rattle.chain_poses.specs.rotation_arc.ShorterArc.{flip, dots_refusal}
use Rattle.chain_poses.specs.rotation_arc.ArcCoefficients.{pair_coefficients}
use Rattle.chain_poses.specs.pose_pair.declared.Pose.{Pose}
use Rattle.chain_poses.specs.animated_transform.declared.AnimatedTransform.{AnimatedTransform}
use Rattle.chain_poses.specs.animated_transform.New.{AnimatedTransformAnswer}
use Rattle.chain_poses.specs.animated_transform.New.{AnimatedTransformAnswer-refused, AnimatedTransform-of_fields, AnimatedTransform-from_parts}
use Rattle.chain_poses.specs.animated_transform.New.{AnimatedTransform-from_poses, build_refusal, AnimatedTransform-new}
use Rattle.chain_poses.proofs.animated_transform.Kept.{new-kept}
use Rattle.chain_poses.specs.motion_chain.Chain.{neighbours, first_number, Chain, Chain-moves, built, ChainAnswer-from_moves, Chain-new}
use Rattle.chain_poses.proofs.motion_chain.Built.{first-none, refused-built, answers, values, new-built, from-moves-built}
use Rattle.built_poses.specs.Poses.{AnimatedTransform-start_pose, AnimatedTransform-end_pose, Chain-poses, Chain-is_rigid, BuiltPoses, BuiltPairs, BuiltKind}

-- ---- one pair
pub record NewPoses (p q : Pose) (a : AnimatedTransformAnswer) : Type 0 where
  pub start-pose : a.refusal ≡ 0 → AnimatedTransform-start_pose a.value ≡ p
  pub end-pose : a.refusal ≡ 0 → AnimatedTransform-end_pose a.value ≡ q

-- behind a number that was tested
tested-poses : {p q : Pose} (n : ℕ) (a : AnimatedTransformAnswer) → (n ≡ 0 → NewPoses p q a)
    → NewPoses p q (cond (eqb n 0) a (AnimatedTransformAnswer-refused n))
tested-poses {p} {q} n a h = go (eqb n 0) (eqb-true n 0) (eqb-false n 0)
  where
    go : (b : Bool) → (b ≡ true → n ≡ 0) → (b ≡ false → n ≡ 0 → ⊥) → NewPoses p q (cond b a (AnimatedTransformAnswer-refused n))
    go true t f = h (t refl)
    go false t f = record { start-pose = λ e. absurd (f refl e); end-pose = λ e. absurd (f refl e) }

-- a transform that isn't refused has the matrix that it was made from
matrix-kept : (m : Matrix4x4) → (Transform-from_matrix (Matrix4x4-to_rows m)).refusal ≡ 0 → (Transform-from_matrix (Matrix4x4-to_rows m)).transform.m ≡ m
matrix-kept m e = ap (λ (a : TransformAnswer). a.transform.m) (from-matrix-accepted (Matrix4x4-to_rows m) (sym (from-matrix-refusal (Matrix4x4-to_rows m)) ∙ e))

from-parts-poses : (rigid : Bool) (p q : Pose) (a b : Transform) (d e : DecompositionAnswer) → a.m ≡ p.m → b.m ≡ q.m
    → NewPoses p q (AnimatedTransform-from_parts rigid p q a b d e)
unfolding AnimatedTransform-from_parts
from-parts-poses rigid p q a b d e ea eb =
    let r1 = flip d.r e.r in
    let cosθ = Quaternion-dot d.r r1 in
    let c = pair_coefficients (lt cosθ slerp_threshold) d.t e.t d.r r1 d.s e.s cosθ in
    tested-poses (first_refusal (dots_refusal (Quaternion-dot d.r e.r) cosθ) c.refusal)
    (record { value = AnimatedTransform-of_fields rigid p q a b d e r1 c.value; refusal = 0 })
    (λ _. record {
      start-pose = λ _. ap (λ (m : Matrix4x4). record { time = p.time; m = m; pad = p.pad }) ea;
      end-pose = λ _. ap (λ (m : Matrix4x4). record { time = q.time; m = m; pad = q.pad }) eb;
    })

from-poses-poses : (rigid : Bool) (p q : Pose) → NewPoses p q (AnimatedTransform-from_poses rigid p q)
unfolding AnimatedTransform-from_poses
from-poses-poses rigid p q =
    let a = Transform-from_matrix (Matrix4x4-to_rows p.m) in
    let b = Transform-from_matrix (Matrix4x4-to_rows q.m) in
    let d = Matrix4x4-decompose rigid (Matrix4x4-to_rows p.m) in
    let e = Matrix4x4-decompose rigid (Matrix4x4-to_rows q.m) in
    let inverses = first_refusal a.refusal b.refusal in
    let parts = first_refusal d.refusal e.refusal in
    tested-poses (first_refusal inverses parts) (AnimatedTransform-from_parts rigid p q a.transform b.transform d e)
    (λ n.
    let (za, zb) = first-zero a.refusal b.refusal (first-zero inverses parts n).0 in
    from-parts-poses rigid p q a.transform b.transform d e (matrix-kept p.m za) (matrix-kept q.m zb))

pub new-poses : (rigid : Bool) (p q : Pose) → NewPoses p q (AnimatedTransform-new rigid p q)
unfolding AnimatedTransform-new
new-poses rigid p q = tested-poses (build_refusal rigid p q) (AnimatedTransform-from_poses rigid p q) (λ _. from-poses-poses rigid p q)

-- ---- the pairs, from a pose on
abbrev number : List AnimatedTransformAnswer → ℕ
number xs = first_number (map (λ a. a.refusal) xs)

ends : (rigid : Bool) (p : Pose) (poses : List Pose) → number (answers rigid (p ∷ poses)) ≡ 0
    → map AnimatedTransform-end_pose (values (answers rigid (p ∷ poses))) ≡ poses
unfolding neighbours
ends rigid p [] n = refl
ends rigid p (q ∷ poses) n =
    let a = AnimatedTransform-new rigid p q in
    let (z, rest) = first-none a.refusal (map (λ x. x.refusal) (answers rigid (q ∷ poses))) n in
    rw ((new-poses rigid p q).end-pose z, ends rigid q poses rest)

abbrev poses_of : AnimatedTransform → Pose × Pose
poses_of m = (AnimatedTransform-start_pose m, AnimatedTransform-end_pose m)

pairs : (rigid : Bool) (p : Pose) (poses : List Pose) → number (answers rigid (p ∷ poses)) ≡ 0
    → map poses_of (values (answers rigid (p ∷ poses))) ≡ neighbours (p ∷ poses)
unfolding neighbours
pairs rigid p [] n = refl
pairs rigid p (q ∷ poses) n =
    let a = AnimatedTransform-new rigid p q in
    let (z, rest) = first-none a.refusal (map (λ x. x.refusal) (answers rigid (q ∷ poses))) n in
    rw ((new-poses rigid p q).start-pose z, (new-poses rigid p q).end-pose z, pairs rigid q poses rest)

-- ---- the chain
record FromPoses (rigid : Bool) (poses : List Pose) (c : Chain) : Type 0 where
  poses-kept : Chain-poses c ≡ poses
  pairs-kept : map poses_of (Chain-moves c) ≡ neighbours poses
  kind-kept : Chain-is_rigid c ≡ rigid

from-poses : (rigid : Bool) (poses : List Pose) (c : Chain) → Chain-new rigid poses ≡ built c → FromPoses rigid poses c
unfolding ChainAnswer-from_moves neighbours Chain-poses
from-poses rigid [] c e = absurd (refused-built (new-built rigid [] c e).1)
from-poses rigid (p ∷ []) c e = absurd (refused-built (new-built rigid (p ∷ []) c e).1)
from-poses rigid (p ∷ q ∷ poses) c e =
    let a = AnimatedTransform-new rigid p q in
    let rest = answers rigid (q ∷ poses) in
    let (n, same) = from-moves-built a rest c (new-built rigid (p ∷ q ∷ poses) c e).1 in
    let (z, _) = first-none a.refusal (map (λ x. x.refusal) rest) n in
    record {
      poses-kept =
          ap Chain-poses same
          ∙ ap (λ (start : Pose). start ∷ map AnimatedTransform-end_pose (values (a ∷ rest))) ((new-poses rigid p q).start-pose z)
          ∙ ap (λ (ps : List Pose). p ∷ ps) (ends rigid p (q ∷ poses) n);
      pairs-kept = ap (λ (d : Chain). map poses_of (Chain-moves d)) same ∙ pairs rigid p (q ∷ poses) n;
      kind-kept = ap Chain-is_rigid same ∙ (new-kept rigid p q z).kind;
    }

pub built-poses : (rigid : Bool) (poses : List Pose) → BuiltPoses rigid poses
built-poses rigid poses c e = (from-poses rigid poses c e).poses-kept

pub built-pairs : (rigid : Bool) (poses : List Pose) → BuiltPairs rigid poses
built-pairs rigid poses c e = (from-poses rigid poses c e).pairs-kept

pub built-kind : (rigid : Bool) (poses : List Pose) → BuiltKind rigid poses
built-kind rigid poses c e = (from-poses rigid poses c e).kind-kept
