-- Four poses side by side, and one of them with the second quaternion and the borders' cosines and sines given. Definitions only.
use Rattle.std.specs.Prelude.{Bool, true, false, Float}
use Rattle.quaternion.specs.declared.Quaternion.{Quaternion}
use Rattle.matrix4x4.specs.declared.Matrix4x4.{Matrix4x4}
use Rattle.lanes.specs.interval.declared.Interval.{Interval}
use Rattle.pose_steps.specs.declared.PoseConstants.{PoseConstants}
use Rattle.pose_steps.specs.Pose.{is_near}
use Rattle.lanes_slerp.specs.pose_lean.means.Lean.{LeanPose, one_minus, slerp_by, rotation, scale, product, linear_by, shifted, pad_high}
use Rattle.lanes.specs.declared.Lanes.{Lanes}
use Rattle.lanes.specs.means.Lanes.{Lane, four, at, Lanes-lane, Lanes-of, Lanes-map, Lanes-zip}
use Rattle.lanes_slerp.specs.means.Quaternions.{LanesQuaternion-lane, LanesQuaternion-of}
use Rattle.lanes_rotation.specs.declared.LanesMatrix.{LanesMatrix}
use Rattle.lanes_rotation.specs.means.Matrices.{LanesVector-lane, LanesVector-of, LanesMatrix-lane, LanesMatrix-of}
use Rattle.lanes_pose.specs.declared.LanesPose.{LanesPose}

-- `LeanPose-over` with slerp's second quaternion, and cosine and sine at the borders of T, at hand.
unfoldable pub LeanPose-by : PoseConstants → Quaternion → Matrix4x4 → Matrix4x4 → Float → Float → Interval → Interval → Interval → LeanPose
LeanPose-by a second s0 s1 pad0 pad1 T C S =
    let U = one_minus T in
    record {
      linear = linear_by a.rigid (rotation (slerp_by (is_near a) a.r0 second T C S)) s0 s1 U T;
      translation = shifted a.t0 a.t1 U T;
      pad = pad_high pad0 pad1 U T;
    }

unfoldable pub LanesPose-of : (Lane → LeanPose) → LanesPose
LanesPose-of f =
    record {
      linear = LanesMatrix-of (λ (k : Lane). (f k).linear);
      translation = LanesVector-of (λ (k : Lane). (f k).translation);
      pad = four (λ (k : Lane). (f k).pad);
    }

unfoldable pub LanesPose-lane : Lane → LanesPose → LeanPose
LanesPose-lane k pose = record { linear = LanesMatrix-lane k pose.linear; translation = LanesVector-lane k pose.translation; pad = at k pose.pad }

-- The rotation times the scale, where there is one.
unfoldable pub LanesMatrix-linear_by : Bool → LanesMatrix → Matrix4x4 → Matrix4x4 → Lanes → Lanes → LanesMatrix
LanesMatrix-linear_by true m s0 s1 u t = m
LanesMatrix-linear_by false m s0 s1 u t = LanesMatrix-of (λ (k : Lane). product (LanesMatrix-lane k m) (scale s0 s1 (Lanes-lane k u) (Lanes-lane k t)))

-- What a law unfolds to see four lanes: `Lanes-of` and its like written out.
unfoldable pub lanewise : Unit {0}
unfolding Lanes-lane Lanes-of Lanes-map Lanes-zip LanesQuaternion-of LanesQuaternion-lane LanesVector-of LanesVector-lane LanesMatrix-of LanesMatrix-lane
lanewise = tt
