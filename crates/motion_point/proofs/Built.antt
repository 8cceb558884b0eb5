-- The constants of a built move are fit for its poses: they are valid, theta being from 0 to a quarter turn (`built-valid`), and the entries of S that are
-- read are finite (`built-scales`). What building has judged says so (`built-judged`).
use mathlib.Core.Path.{◌≡◌, sym, subst}
use lib.Dec.{T}
use Rattle.transform.specs.vector3.declared.Vector3f.{Vector3f}
use Rattle.transform.specs.matrix4x4.declared.Matrix4x4.{Matrix4x4}
use Rattle.transform.specs.matrix4x4.Rows.{Matrix4x4-to_rows}
use Rattle.animated_transform.specs.decomposition.Decompose.{translation_of}
use Rattle.pose_steps.specs.Pose.{Vector3f-list, all_finite}
use Rattle.pose_steps.specs.Promise.{AllFinite, PoseConstants-Valid, FiniteScale}
use Rattle.pose_steps.proofs.Angle.{new-valid}
use Rattle.pose_steps.proofs.Finite.{quaternion-each, matrix-each, scale-each}
use Rattle.animated_transform.specs.declared.AnimatedTransform.{AnimatedTransform}
use Rattle.animated_transform.specs.Built.{Built}
use Rattle.animated_transform.proofs.Built.{built-judged}
use Rattle.motion_point.specs.TransformPoint.{AnimatedTransform-constants}

translation-each : (t : Vector3f) (m : Matrix4x4) → t ≡ translation_of (Matrix4x4-to_rows m) → T (all_finite m) → AllFinite (Vector3f-list t)
translation-each t m e h =
    let ((a, (b, (c, (x, d)))), (f, (g, (i, (y, j)))), (k, (l, (n, (z, o))))) = matrix-each m h in
    subst (λ (v : Vector3f). AllFinite (Vector3f-list v)) (sym e) (x, (y, (z, tt)))

pub built-valid : {m : AnimatedTransform} → Built m → PoseConstants-Valid (AnimatedTransform-constants m)
built-valid {m} b =
    let j = built-judged b in
    new-valid m.rigid m.t0 m.t1 m.r0 m.r1
    (translation-each m.t0 m.start_transform.m j.t0 j.start.matrix)
    (translation-each m.t1 m.end_transform.m j.t1 j.end.matrix)
    (quaternion-each m.r0 j.r0) (quaternion-each m.r1 j.r1) j.dot j.dot-sign

pub built-scales : {m : AnimatedTransform} → Built m → FiniteScale m.s0 × FiniteScale m.s1
built-scales {m} b = let j = built-judged b in (scale-each m.s0 j.s0, scale-each m.s1 j.s1)
