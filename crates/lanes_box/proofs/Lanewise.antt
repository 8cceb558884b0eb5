-- Moved and grown in lanes is moved and grown lane by lane: `box-lanes`.
use mathlib.Core.Path.{◌≡◌, refl}
use mathlib.Core.List.{List}
use lib.Ieee.{Float}
use Rattle.lanes.specs.means.Lanes.{Lane, at, Lanes-lane, Lanes-of}
use Rattle.lanes_rotation.specs.declared.LanesVector.{LanesVector}
use Rattle.lanes_rotation.specs.declared.LanesMatrix.{LanesMatrix}
use Rattle.lanes_rotation.specs.means.Matrices.{LanesVector-lane, LanesVector-of, LanesMatrix-lane}
use Rattle.lanes_pose.specs.declared.LanesPose.{LanesPose}
use Rattle.lanes_pose.specs.means.Poses.{LanesPose-lane}
use Rattle.lanes_rotation.specs.pose_lean.means.Lean.{moved_by, IntervalVector-grown, LeanPose-vector}

-- ---- each stage in lanes, as its contract has it
unfoldable pub moved_by_lanes : LanesVector → LanesMatrix → LanesVector → LanesVector
moved_by_lanes p m t = LanesVector-of (λ (k : Lane). moved_by (LanesVector-lane k p) (LanesMatrix-lane k m) (LanesVector-lane k t))

unfoldable pub grown_lanes : LanesVector → List Float → LanesVector
grown_lanes v pad = LanesVector-of (λ (k : Lane). IntervalVector-grown (at k pad) (LanesVector-lane k v))

pub box-lanes : (pose : LanesPose) (p : LanesVector) → grown_lanes (moved_by_lanes p pose.linear pose.translation) pose.pad
    ≡ LanesVector-of (λ (k : Lane). LeanPose-vector (LanesPose-lane k pose) (LanesVector-lane k p))
unfolding grown_lanes moved_by_lanes LeanPose-vector LanesPose-lane Lanes-lane Lanes-of LanesVector-of LanesVector-lane
box-lanes pose p = refl
