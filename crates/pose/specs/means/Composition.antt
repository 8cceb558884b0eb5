-- The steps of a pose with its rotation given: `Pose-composition`, and a point moved by it, `Pose-composed_point`. Definitions only.
-- With slerp's rotation they are `Pose-matrix` and `Pose-moved_point` (`moved_point-composition`).
use Rattle.std.specs.Prelude.{◌&&◌, cond, eqb, Float, Ok, Err}
use Rattle.bounds3.specs.declared.Point3f.{Point3f}
use Rattle.bounds3.specs.Finite.{Point3f-is_finite}
use Rattle.matrix4x4.specs.declared.Matrix4x4.{Matrix4x4}
use Rattle.transform.specs.Transform.{translation}
use Rattle.transform.specs.Answer.{PointAnswer}
use Rattle.quaternion.specs.declared.Quaternion.{Quaternion}
use Rattle.quaternion.specs.IsFinite.{Quaternion-is_finite}
use Rattle.pose_steps.specs.declared.PoseConstants.{PoseConstants}
use Rattle.pose_steps.specs.declared.PoseAnswer.{PoseAnswer}
use Rattle.pose_steps.specs.Pose.{Pose-translation, Pose-scale_by, Pose-rotation, Pose-mul, Pose-transform_point, all_finite, PoseAnswer-judged}

unfoldable pub Pose-composition : PoseConstants → Quaternion → Matrix4x4 → Matrix4x4 → Float → PoseAnswer
Pose-composition a rotate s0 s1 dt =
    let trans = Pose-translation a.t0 a.t1 dt in
    let scale = Pose-scale_by a.rigid s0 s1 dt in
    let translate = translation trans.x trans.y trans.z in
    let rotation = Pose-rotation rotate in
    let first = Pose-mul translate rotation in
    let last = Pose-mul first scale in
    PoseAnswer-judged (Quaternion-is_finite rotate && all_finite scale && all_finite translate && all_finite rotation && all_finite first && all_finite last) last

unfoldable pub Pose-composed_point : PoseConstants → Quaternion → Matrix4x4 → Matrix4x4 → Float → Point3f → PointAnswer
Pose-composed_point a rotate s0 s1 dt p =
    let pose = Pose-composition a rotate s0 s1 dt in
    let q = Pose-transform_point pose.m p in
    cond (eqb pose.refusal 0 && Point3f-is_finite q) (Ok q) (Err 5)
