-- The borders of four slices, the boxes of four slices joined lane by lane, and the union of all groups, `Groups-union`. Definitions only.
use Rattle.std.specs.Prelude.{ℕ, ◌+◌, ◌*◌, Bool, cond, [], ◌∷◌, Float}
use Rattle.pose_steps.specs.control_flow.Loop.{loop}
use Rattle.bounds3.specs.float32.Operators.{◌⊕◌, ◌⊗◌, positive_zero, one}
use Rattle.trig.specs.SinCos.{sin, cos}
use Rattle.quaternion.specs.declared.Quaternion.{Quaternion}
use Rattle.matrix4x4.specs.declared.Matrix4x4.{Matrix4x4}
use Rattle.bounds3.specs.declared.Bounds3f.{Bounds3f}
use Rattle.pose_steps.specs.unit_interval.Unit.{slice_end, slice}
use Rattle.pose_steps.specs.declared.PoseConstants.{PoseConstants}
use Rattle.pose_steps.specs.declared.IntervalVector.{IntervalVector}
use Rattle.pose_steps.specs.Pose.{is_near}
use Rattle.pose_steps.specs.Enclose.{Bounds3f-intervals}
use Rattle.lanes_rotation.specs.pose_lean.means.Lean.{LeanPose-over, LeanPose-vector}
use Rattle.lanes.specs.declared.Lanes.{Lanes}
use Rattle.lanes.specs.means.Lanes.{Lane, place, at, fourth, Lanes-lane}
use Rattle.lanes_rotation.specs.declared.LanesVector.{LanesVector}
use Rattle.lanes_rotation.specs.means.Matrices.{LanesVector-lane, LanesVector-of}
use Rattle.lanes_pose.specs.means.Poses.{LeanPose-by}
use Rattle.lanes_box.specs.means.Boxes.{IntervalVector-join, LanesVector-joined}
use Rattle.cover_groups.specs.declared.Border.{Border}
use Rattle.cover_groups.specs.declared.LanesBorders.{LanesBorders}

-- ---- borders
unfoldable pub Lanes-ends : Float → Float → Float → Float → Float → Lanes
Lanes-ends a b c d e = record { low = a ∷ b ∷ c ∷ d ∷ []; high = b ∷ c ∷ d ∷ e ∷ [] }

-- The border at dt; where slerp is near its angle is not asked for.
unfoldable pub Border-at : Bool → Float → Float → Border
Border-at near theta t = record { dt = t; cos = cond near one (cos (theta ⊗ t)); sin = cond near positive_zero (sin (theta ⊗ t)) }

unfoldable pub Border-from : Float → Float → Float → Border
Border-from t c s = record { dt = t; cos = c; sin = s }

unfoldable pub LanesBorders-from : Lanes → Lanes → Lanes → LanesBorders
LanesBorders-from t c s = record { dt = t; cos = c; sin = s }

unfoldable pub LanesBorders-of : Border → Border → Border → Border → Border → LanesBorders
LanesBorders-of a b c d e =
    record {
      dt = Lanes-ends a.dt b.dt c.dt d.dt e.dt;
      cos = Lanes-ends a.cos b.cos c.cos d.cos e.cos;
      sin = Lanes-ends a.sin b.sin c.sin d.sin e.sin;
    }

-- The borders k to k + 4 of 2 ^ h slices.
unfoldable pub LanesBorders-at : Bool → Float → ℕ → ℕ → LanesBorders
LanesBorders-at near theta h k =
    LanesBorders-of (Border-at near theta (slice_end h k)) (Border-at near theta (slice_end h (k + 1))) (Border-at near theta (slice_end h (k + 2)))
    (Border-at near theta (slice_end h (k + 3))) (Border-at near theta (slice_end h (k + 4)))

-- The borders at t and at four steps of the width w on from it.
unfoldable pub LanesBorders-steps : Bool → Float → Float → Float → LanesBorders
LanesBorders-steps near theta w t =
    LanesBorders-of (Border-at near theta t) (Border-at near theta (t ⊕ w)) (Border-at near theta ((t ⊕ w) ⊕ w)) (Border-at near theta (((t ⊕ w) ⊕ w) ⊕ w))
    (Border-at near theta ((((t ⊕ w) ⊕ w) ⊕ w) ⊕ w))

abbrev pub Border-last : LanesBorders → Border
Border-last g = record { dt = at fourth g.dt.high; cos = at fourth g.cos.high; sin = at fourth g.sin.high }

-- ---- four slices
-- The boxes of four slices, of the points p, joined to u.
unfoldable pub LanesVector-pieces : PoseConstants → Quaternion → Matrix4x4 → Matrix4x4 → Float → Float → LanesVector → LanesBorders → LanesVector → LanesVector
LanesVector-pieces a second s0 s1 pad0 pad1 p g u =
    LanesVector-of (λ (l : Lane). IntervalVector-join (LanesVector-lane l u)
    (LeanPose-vector (LeanPose-by a second s0 s1 pad0 pad1 (Lanes-lane l g.dt) (Lanes-lane l g.cos) (Lanes-lane l g.sin)) (LanesVector-lane l p)))

-- The group g.
unfoldable pub LanesVector-group : PoseConstants → Quaternion → Matrix4x4 → Matrix4x4 → Float → Float → LanesVector → ℕ → ℕ → LanesVector → LanesVector
LanesVector-group a second s0 s1 pad0 pad1 p h g = LanesVector-pieces a second s0 s1 pad0 pad1 p (LanesBorders-at (is_near a) a.theta h (4 * g))

-- ---- all groups
-- The lean box of the slice k.
unfoldable pub lean_piece : PoseConstants → Matrix4x4 → Matrix4x4 → Float → Float → Bounds3f → ℕ → ℕ → IntervalVector
lean_piece a s0 s1 pad0 pad1 b h k = LeanPose-vector (LeanPose-over a s0 s1 pad0 pad1 (slice h k)) (Bounds3f-intervals b)

-- The slices l, l + 4, .. of n groups, joined to u: a lane.
unfoldable pub lane_union : PoseConstants → Matrix4x4 → Matrix4x4 → Float → Float → Bounds3f → ℕ → ℕ → IntervalVector → Lane → IntervalVector
lane_union a s0 s1 pad0 pad1 b h n u l = loop (λ (g : ℕ) (v : IntervalVector). IntervalVector-join v (lean_piece a s0 s1 pad0 pad1 b h (4 * g + place l))) n u

-- The four lanes of n groups, joined.
unfoldable pub Groups-union : PoseConstants → Matrix4x4 → Matrix4x4 → Float → Float → Bounds3f → ℕ → ℕ → Bounds3f → Bounds3f
Groups-union a s0 s1 pad0 pad1 b h n first = LanesVector-joined (LanesVector-of (lane_union a s0 s1 pad0 pad1 b h n (Bounds3f-intervals first)))
