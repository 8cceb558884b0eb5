-- With slerp's rotation the point that is moved with a rotation given is that of the pose: `moved_point-composition`.
use mathlib.Core.Path.{◌≡◌, refl}
use lib.Ieee.{Float}
use Rattle.bounds3.specs.declared.Point3f.{Point3f}
use Rattle.matrix4x4.specs.declared.Matrix4x4.{Matrix4x4}
use Rattle.pose_steps.specs.declared.PoseConstants.{PoseConstants}
use Rattle.pose_steps.specs.Pose.{Pose-slerp, Pose-matrix, Pose-moved_point}
use Rattle.pose.specs.means.Composition.{Pose-composition, Pose-composed_point}

pub moved_point-composition : (a : PoseConstants) (s0 s1 : Matrix4x4) (dt : Float) (p : Point3f)
    → Pose-composed_point a (Pose-slerp a dt) s0 s1 dt p ≡ Pose-moved_point a s0 s1 dt p
unfolding Pose-composition Pose-composed_point Pose-matrix Pose-moved_point
moved_point-composition a s0 s1 dt p = refl
