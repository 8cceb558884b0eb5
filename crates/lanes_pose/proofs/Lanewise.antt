-- The stages of a pose in lanes, one after the other, are the pose lane by lane: `plain-lanes`, `linear-lanes`, `pose-lanes`.
use mathlib.Core.Path.{◌≡◌, refl}
use mathlib.Core.Bool.{Bool, true, false}
use mathlib.Core.List.{List}
use lib.Ieee.{Float}
use Rattle.matrix4x4.specs.float32.Operators.{one}
use Rattle.vector3.specs.declared.Vector3f.{Vector3f}
use Rattle.quaternion.specs.declared.Quaternion.{Quaternion}
use Rattle.matrix4x4.specs.declared.Matrix4x4.{Matrix4x4}
use Rattle.lanes.specs.interval.Interval.{Interval-point}
use Rattle.lanes.specs.interval.Enclosure.{Interval-sub_enclosure}
use Rattle.pose_steps.specs.declared.PoseConstants.{PoseConstants}
use Rattle.pose_steps.specs.Pose.{is_near}
use Rattle.lanes_slerp.specs.pose_lean.means.Lean.{one_minus, slerp_by, rotation, scale, product, linear_by, shifted, pad_high}
use Rattle.lanes.specs.declared.Lanes.{Lanes}
use Rattle.lanes.specs.means.Lanes.{Lane, four, Lanes-lane, Lanes-map}
use Rattle.lanes_slerp.specs.declared.LanesQuaternion.{LanesQuaternion}
use Rattle.lanes_slerp.specs.means.Quaternions.{LanesQuaternion-lane, LanesQuaternion-of}
use Rattle.lanes_rotation.specs.declared.LanesVector.{LanesVector}
use Rattle.lanes_rotation.specs.declared.LanesMatrix.{LanesMatrix}
use Rattle.lanes_rotation.specs.means.Matrices.{LanesVector-of, LanesMatrix-lane, LanesMatrix-of}
use Rattle.lanes_pose.specs.declared.LanesPose.{LanesPose}
use Rattle.lanes_pose.specs.means.Poses.{LeanPose-by, LanesPose-of, LanesMatrix-linear_by, lanewise}

-- ---- each stage in lanes, as its contract has it
unfoldable pub one_minus_lanes : Lanes → Lanes
one_minus_lanes dt = Lanes-map (Interval-sub_enclosure (Interval-point one)) dt

unfoldable pub slerp_lanes : Bool → Quaternion → Quaternion → Lanes → Lanes → Lanes → LanesQuaternion
slerp_lanes near q p dt c s = LanesQuaternion-of (λ (k : Lane). slerp_by near q p (Lanes-lane k dt) (Lanes-lane k c) (Lanes-lane k s))

unfoldable pub rotation_lanes : LanesQuaternion → LanesMatrix
rotation_lanes q = LanesMatrix-of (λ (k : Lane). rotation (LanesQuaternion-lane k q))

unfoldable pub scale_lanes : Matrix4x4 → Matrix4x4 → Lanes → Lanes → LanesMatrix
scale_lanes s0 s1 u t = LanesMatrix-of (λ (k : Lane). scale s0 s1 (Lanes-lane k u) (Lanes-lane k t))

unfoldable pub product_lanes : LanesMatrix → LanesMatrix → LanesMatrix
product_lanes m s = LanesMatrix-of (λ (k : Lane). product (LanesMatrix-lane k m) (LanesMatrix-lane k s))

unfoldable pub shifted_lanes : Vector3f → Vector3f → Lanes → Lanes → LanesVector
shifted_lanes a b u t = LanesVector-of (λ (k : Lane). shifted a b (Lanes-lane k u) (Lanes-lane k t))

unfoldable pub pad_lanes : Float → Float → Lanes → Lanes → List Float
pad_lanes pad0 pad1 u t = four (λ (k : Lane). pad_high pad0 pad1 (Lanes-lane k u) (Lanes-lane k t))

unfoldable pub LanesPose-from : LanesMatrix → LanesVector → List Float → LanesPose
LanesPose-from m t p = record { linear = m; translation = t; pad = p }

-- ---- the linear part
pub plain-lanes : (m : LanesMatrix) (s0 s1 : Matrix4x4) (u t : Lanes) → product_lanes m (scale_lanes s0 s1 u t) ≡ LanesMatrix-linear_by false m s0 s1 u t
unfolding product_lanes scale_lanes LanesMatrix-linear_by lanewise
plain-lanes m s0 s1 u t = refl

module _ (near : Bool) (q second : Quaternion) (s0 s1 : Matrix4x4) (dt c s : Lanes) where
  pub linear-lanes : (rigid : Bool) → LanesMatrix-linear_by rigid (rotation_lanes (slerp_lanes near q second dt c s)) s0 s1 (one_minus_lanes dt) dt
      ≡ LanesMatrix-of (λ (k : Lane). linear_by rigid (rotation (slerp_by near q second (Lanes-lane k dt) (Lanes-lane k c) (Lanes-lane k s))) s0 s1
      (one_minus (Lanes-lane k dt)) (Lanes-lane k dt))
  unfolding rotation_lanes slerp_lanes one_minus_lanes LanesMatrix-linear_by linear_by one_minus lanewise
  linear-lanes true = refl
  linear-lanes false = refl

-- ---- the pose
module _ (a : PoseConstants) (second : Quaternion) (s0 s1 : Matrix4x4) (pad0 pad1 : Float) (dt c s : Lanes) where
  pub pose-lanes : LanesPose-from
      (LanesMatrix-of (λ (k : Lane). linear_by a.rigid (rotation (slerp_by (is_near a) a.r0 second (Lanes-lane k dt) (Lanes-lane k c) (Lanes-lane k s))) s0 s1
      (one_minus (Lanes-lane k dt)) (Lanes-lane k dt)))
      (shifted_lanes a.t0 a.t1 (one_minus_lanes dt) dt)
      (pad_lanes pad0 pad1 (one_minus_lanes dt) dt)
      ≡ LanesPose-of (λ (k : Lane). LeanPose-by a second s0 s1 pad0 pad1 (Lanes-lane k dt) (Lanes-lane k c) (Lanes-lane k s))
  unfolding one_minus_lanes shifted_lanes pad_lanes LanesPose-from LanesPose-of LeanPose-by one_minus lanewise
  pose-lanes = refl
