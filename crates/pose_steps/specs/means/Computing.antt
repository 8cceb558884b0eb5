-- What has to unfold for a pose of a given move to compute, in floats and in intervals, as one group:
-- a case says `unfolding computing`. theta is given, since the arc cosine's search is not in it.
use Rattle.formula.specs.means.Computing as formula
use Rattle.quaternion.specs.IsFinite.{Quaternion-is_finite}
use Rattle.matrix4x4.specs.IsFinite.{Matrix4x4-is_finite}
use Rattle.rotation.specs.bounds3.Finite.{Point3f-is_finite}
use Rattle.pose_steps.specs.Pose.{Pose-translation, Pose-slerp_near, Pose-slerp_far, slerp_by, Pose-slerp, Pose-scale_row, Pose-scale, Pose-scale_by}
use Rattle.pose_steps.specs.Pose.{Pose-rotation, Pose-mul_row, Pose-mul, Pose-transform_point, PoseAnswer-judged, Pose-matrix, Pose-moved_point}
use Rattle.pose_steps.specs.Enclose.{Pose-enclose_translation, Pose-enclose_slerp_near, Pose-enclose_slerp_far, enclose_slerp_by}
use Rattle.pose_steps.specs.Enclose.{Pose-enclose_slerp, Pose-enclose_scale_row, Pose-enclose_scale, enclose_scale_by, Pose-enclose_rotation}
use Rattle.pose_steps.specs.Enclose.{Pose-enclose_mul_row, Pose-enclose_mul, Pose-enclose_transform_point, Pose-enclose_matrix, Pose-enclose_point}

unfoldable pub computing : Unit {0}
unfolding formula.computing Quaternion-is_finite Matrix4x4-is_finite Point3f-is_finite Pose-translation Pose-slerp_near Pose-slerp_far slerp_by Pose-slerp
    Pose-scale_row Pose-scale Pose-scale_by Pose-rotation Pose-mul_row Pose-mul Pose-transform_point PoseAnswer-judged Pose-matrix Pose-moved_point
    Pose-enclose_translation Pose-enclose_slerp_near Pose-enclose_slerp_far enclose_slerp_by Pose-enclose_slerp Pose-enclose_scale_row Pose-enclose_scale enclose_scale_by
    Pose-enclose_rotation Pose-enclose_mul_row Pose-enclose_mul Pose-enclose_transform_point Pose-enclose_matrix Pose-enclose_point
computing = tt
