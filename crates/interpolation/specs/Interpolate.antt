-- pbrt's `AnimatedTransform::interpolate`, both halves, judged: 6 for a NaN time, a stored transform at and outside the end times and where the poses are
-- equal, 5 where that isn't finite, and between them document 01's 4 or 5, whichever is met first: 5 for the quaternion, the scale, the translation, the
-- rotation and their product, the number of the scale's inverse, 5 for the last product. After a refusal every entry is +0. Definitions only.
use Rattle.std.specs.Prelude.{Bool, ◌&&◌, cond, eqb, Float}
use Rattle.std.specs.Float.Ieee.{is_nan}
use Rattle.matrix4x4.specs.declared.Matrix4x4.{Matrix4x4}
use Rattle.matrix4x4.specs.Rows.{Rows, Matrix4x4-to_rows}
use Rattle.matrix4x4.specs.IsFinite.{Matrix4x4-is_finite}
use Rattle.vector3.specs.declared.Vector3f.{Vector3f}
use Rattle.quaternion.specs.declared.Quaternion.{Quaternion}
use Rattle.quaternion.specs.Slerp.{Quaternion-slerp}
use Rattle.quaternion.specs.IsFinite.{Quaternion-is_finite}
use Rattle.transform.specs.declared.Transform.{Transform}
use Rattle.transform.specs.Transform.{TransformAnswer}
use Rattle.transform.specs.Transform.{TransformAnswer-refused, Transform-from_matrix, Transform-translate, Transform-mul}
use Rattle.rotation.specs.FromQuaternion.{Transform-from_quaternion}
use Rattle.unit_interval.specs.Unit.{dt}
use Rattle.pose_parts.specs.pose_steps.declared.PoseConstants.{PoseConstants}
use Rattle.pose_parts.specs.pose_steps.Pose.{Pose-slerp}
use Rattle.pose_parts.specs.pose_steps.Composition.{lerp_translation, lerp_scale_by}
use Rattle.animated_transform.specs.declared.AnimatedTransform.{AnimatedTransform}
use Rattle.animated_transform.specs.AtTime.{at_start, at_end}

-- Both halves are finite.
unfoldable pub Transform-is_finite : Transform → Bool
Transform-is_finite t = Matrix4x4-is_finite (Matrix4x4-to_rows t.m) && Matrix4x4-is_finite (Matrix4x4-to_rows t.m_inv)

abbrev pub TransformAnswer-accepted : Transform → TransformAnswer
TransformAnswer-accepted t = record { transform = t; refusal = 0 }

-- document 01, Refusals: 5 where a finished matrix "holds a value that isn't finite"
unfoldable pub TransformAnswer-judged : Transform → TransformAnswer
TransformAnswer-judged t = cond (Transform-is_finite t) (TransformAnswer-accepted t) (TransformAnswer-refused 5)

-- .. * Transform::from_matrix(&scale)
unfoldable pub scaled : Transform → Rows → TransformAnswer
scaled first scale =
    let s = Transform-from_matrix scale in
    cond (eqb s.refusal 0) (TransformAnswer-judged (Transform-mul first s.transform)) (TransformAnswer-refused s.refusal)

-- Transform::translate(&trans) * rotate.into() * Transform::from_matrix(&scale)
unfoldable pub composed : Vector3f → Quaternion → Rows → TransformAnswer
composed trans rotate scale =
    let translation = Transform-translate trans in
    let rotation = Transform-from_quaternion rotate in
    let first = Transform-mul translation rotation in
    cond (Quaternion-is_finite rotate && Matrix4x4-is_finite scale && Transform-is_finite translation && Transform-is_finite rotation && Transform-is_finite first)
    (scaled first scale)
    (TransformAnswer-refused 5)

-- translation, rotation and scale at dt, of a rigid move the identity, and their composition
unfoldable pub AnimatedTransform-pose_at : AnimatedTransform → Float → TransformAnswer
AnimatedTransform-pose_at m dt =
    composed
    (lerp_translation m.t0 m.t1 dt)
    (Quaternion-slerp m.r0 m.r1 dt)
    (lerp_scale_by m.rigid (Matrix4x4-to_rows m.s0) (Matrix4x4-to_rows m.s1) dt)

-- The same where the dot product of the rotations and the angle between them are at hand, which `slerp` works out anew at each call. Of a move's own
-- constants it is `AnimatedTransform-pose_at` (`transform-same`).
unfoldable pub Pose-transform : PoseConstants → Matrix4x4 → Matrix4x4 → Float → TransformAnswer
Pose-transform a s0 s1 dt =
    composed
    (lerp_translation a.t0 a.t1 dt)
    (Pose-slerp a dt)
    (lerp_scale_by a.rigid (Matrix4x4-to_rows s0) (Matrix4x4-to_rows s1) dt)

-- `AnimatedTransform::interpolate`, where `between` says what is answered at a dt between the poses; document 01, Refusals: 6 where "the time is NaN"
unfoldable pub AnimatedTransform-interpolate_by : AnimatedTransform → (Float → TransformAnswer) → Float → TransformAnswer
AnimatedTransform-interpolate_by m between time =
    cond (is_nan time) (TransformAnswer-refused 6)
    (cond (at_start m time) (TransformAnswer-judged m.start_transform)
    (cond (at_end m time) (TransformAnswer-judged m.end_transform)
    (between (dt m.start_time m.end_time time))))

abbrev pub AnimatedTransform-interpolate : AnimatedTransform → Float → TransformAnswer
AnimatedTransform-interpolate m time = AnimatedTransform-interpolate_by m (AnimatedTransform-pose_at m) time
