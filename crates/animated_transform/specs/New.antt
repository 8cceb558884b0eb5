-- pbrt's `AnimatedTransform::new`, of a move of either kind, rigid or not, judged: 1, 2, 16 and 3 before anything is worked, of a rigid move also 17 and 18,
-- then 4 or 5, whichever is met first, in this order: both inverses, start parts, end parts, the dot products of the two quaternions, the coefficients.
-- After a refusal every number is +0 and every yes or no is no. Definitions only.
use Rattle.std.specs.Prelude.{ℕ, Bool, false, not, cond, eqb, Result, Ok, Err}
use Rattle.std.specs.Float.Ieee.{lt}
use Rattle.refusal.specs.First.{first_refusal}
use Rattle.vector3.specs.declared.Vector3f.{Vector3f}
use Rattle.quaternion.specs.declared.Quaternion.{Quaternion}
use Rattle.quaternion.specs.Quaternion.{Quaternion-dot}
use Rattle.quaternion.specs.Slerp.{slerp_threshold}
use Rattle.matrix4x4.specs.declared.Matrix4x4.{Matrix4x4}
use Rattle.matrix4x4.specs.Rows.{positive_zero, Matrix4x4-to_rows, Matrix4x4-zero}
use Rattle.transform.specs.declared.Transform.{Transform}
use Rattle.transform.specs.Transform.{Transform-from_matrix, Transform-eq}
use Rattle.decomposition.specs.Decompose.{DecompositionAnswer}
use Rattle.decomposition.specs.Decompose.{Matrix4x4-decompose}
use Rattle.coefficients.specs.declared.Coefficients.{Coefficients}
use Rattle.coefficients.specs.Coefficients.{Coefficients-zero}
use Rattle.pose_pair.specs.declared.Pose.{Pose}
use Rattle.animated_transform.specs.declared.AnimatedTransform.{AnimatedTransform}
use Rattle.refusal.specs.declared.Refusal.{Refusal}
use Rattle.refusal.specs.Number.{Refusal-number}
use Rattle.pose_pair.specs.Pose.{poses_refusal, Pose-kind_number}
use Rattle.rotation_arc.specs.ShorterArc.{flip, dots_refusal}
use Rattle.rotation_arc.specs.ArcCoefficients.{pair_coefficients}

abbrev pub AnimatedTransform-zero : AnimatedTransform
AnimatedTransform-zero =
    let t : Vector3f = record { x = positive_zero; y = positive_zero; z = positive_zero } in
    let r : Quaternion = record { v = t; w = positive_zero } in
    let m : Matrix4x4 = Matrix4x4-zero in
    let transform : Transform = record { m = m; m_inv = m } in
    record {
      start_transform = transform;
      end_transform = transform;
      start_time = positive_zero;
      end_time = positive_zero;
      actually_animated = false;
      has_rotation = false;
      t0 = t;
      t1 = t;
      r0 = r;
      r1 = r;
      s0 = m;
      s1 = m;
      coefficients = Coefficients-zero;
      pad0 = positive_zero;
      pad1 = positive_zero;
      rigid = false;
    }

-- A move beside a refusal's number, 0 for none.
pub record AnimatedTransformAnswer : Type 0 where
  pub value : AnimatedTransform
  pub refusal : ℕ

abbrev pub AnimatedTransformAnswer-refused : ℕ → AnimatedTransformAnswer
AnimatedTransformAnswer-refused n = record { value = AnimatedTransform-zero; refusal = n }

abbrev pub AnimatedTransformAnswer-of_result : Result AnimatedTransform Refusal → AnimatedTransformAnswer
AnimatedTransformAnswer-of_result (Ok m) = record { value = m; refusal = 0 }
AnimatedTransformAnswer-of_result (Err r) = AnimatedTransformAnswer-refused (Refusal-number r)

-- The fields of a move: transforms a and b, parts p and q, the end's quaternion after the flip, and coefficients; its pads are the poses' own.
abbrev pub AnimatedTransform-of_fields : Bool → Pose → Pose → Transform → Transform → DecompositionAnswer → DecompositionAnswer → Quaternion → Coefficients
    → AnimatedTransform
AnimatedTransform-of_fields rigid start end a b p q r1 c =
    record {
      start_transform = a;
      end_transform = b;
      start_time = start.time;
      end_time = end.time;
      actually_animated = not (Transform-eq a b);
      has_rotation = lt (Quaternion-dot p.r r1) slerp_threshold;
      t0 = p.t;
      t1 = q.t;
      r0 = p.r;
      r1 = r1;
      s0 = p.s;
      s1 = q.s;
      coefficients = c;
      pad0 = start.pad;
      pad1 = end.pad;
      rigid = rigid;
    }

-- what is computed per pair: the dot products, then the coefficients
unfoldable pub AnimatedTransform-from_parts : Bool → Pose → Pose → Transform → Transform → DecompositionAnswer → DecompositionAnswer → AnimatedTransformAnswer
AnimatedTransform-from_parts rigid start end a b p q =
    let r1 = flip p.r q.r in
    let cosθ = Quaternion-dot p.r r1 in
    let c = pair_coefficients (lt cosθ slerp_threshold) p.t q.t p.r r1 p.s q.s cosθ in
    let n = first_refusal (dots_refusal (Quaternion-dot p.r q.r) cosθ) c.refusal in
    cond (eqb n 0) (record { value = AnimatedTransform-of_fields rigid start end a b p q r1 c.value; refusal = 0 }) (AnimatedTransformAnswer-refused n)

-- what is computed per pose: "Building works: both inverses, start parts, end parts, coefficients" (document 01, Refusals)
unfoldable pub AnimatedTransform-from_poses : Bool → Pose → Pose → AnimatedTransformAnswer
AnimatedTransform-from_poses rigid start end =
    let a = Transform-from_matrix (Matrix4x4-to_rows start.m) in
    let b = Transform-from_matrix (Matrix4x4-to_rows end.m) in
    let p = Matrix4x4-decompose rigid (Matrix4x4-to_rows start.m) in
    let q = Matrix4x4-decompose rigid (Matrix4x4-to_rows end.m) in
    let n = first_refusal (first_refusal a.refusal b.refusal) (first_refusal p.refusal q.refusal) in
    cond (eqb n 0) (AnimatedTransform-from_parts rigid start end a.transform b.transform p q) (AnimatedTransformAnswer-refused n)

-- document 02, "Rigid booms": 17 and 18 are "both judged pose by pose after 3"
abbrev pub build_refusal : Bool → Pose → Pose → ℕ
build_refusal rigid start end = first_refusal (poses_refusal start end) (first_refusal (Pose-kind_number rigid start) (Pose-kind_number rigid end))

-- `AnimatedTransform::new`, of the transforms of two matrices, for a move of either kind; pbrt's is not rigid
unfoldable pub AnimatedTransform-new : Bool → Pose → Pose → AnimatedTransformAnswer
AnimatedTransform-new rigid start end =
    let n = build_refusal rigid start end in
    cond (eqb n 0) (AnimatedTransform-from_poses rigid start end) (AnimatedTransformAnswer-refused n)
