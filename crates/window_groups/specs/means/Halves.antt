-- An interval of dt in halves down to four neighbouring pieces, `quarter`; the boxes of these joined lane by lane, and the union of all, `Halves-union`.
-- Definitions only.
use Rattle.std.specs.Prelude.{ℕ, zero, suc, Bool, Float}
use Rattle.quaternion.specs.declared.Quaternion.{Quaternion}
use Rattle.matrix4x4.specs.declared.Matrix4x4.{Matrix4x4}
use Rattle.bounds3.specs.declared.Bounds3f.{Bounds3f}
use Rattle.interval.specs.declared.Interval.{Interval}
use Rattle.interval.specs.Interval.{Interval-midpoint}
use Rattle.dt_share.specs.Share.{lower_half, upper_half}
use Rattle.pose_steps.specs.declared.PoseConstants.{PoseConstants}
use Rattle.pose_steps.specs.declared.IntervalVector.{IntervalVector}
use Rattle.pose_steps.specs.Pose.{is_near}
use Rattle.pose_steps.specs.Enclose.{Bounds3f-intervals}
use Rattle.lanes_rotation.specs.pose_lean.means.Lean.{LeanPose-over, LeanPose-vector}
use Rattle.lanes_rotation.specs.lanes.means.Lanes.{Lane, first, second, third, fourth}
use Rattle.lanes_rotation.specs.declared.LanesVector.{LanesVector}
use Rattle.lanes_rotation.specs.means.Matrices.{LanesVector-of}
use Rattle.lanes_box.specs.means.Boxes.{IntervalVector-join, LanesVector-joined}
use Rattle.cover_groups.specs.declared.Border.{Border}
use Rattle.cover_groups.specs.declared.LanesBorders.{LanesBorders}
use Rattle.cover_groups.specs.means.Groups.{Border-at, LanesBorders-of, LanesVector-pieces}

-- ---- borders
abbrev pub between : Float → Float → Interval
between low high = record { low = low; high = high }

unfoldable pub Border-between : Bool → Float → Float → Float → Border
Border-between near theta low high = Border-at near theta (Interval-midpoint (between low high))

-- The borders of the four pieces.
unfoldable pub LanesBorders-quarters : Bool → Float → Float → Float → LanesBorders
LanesBorders-quarters near theta low high =
    let mid = Interval-midpoint (between low high) in
    LanesBorders-of (Border-at near theta low) (Border-between near theta low mid) (Border-at near theta mid) (Border-between near theta mid high)
    (Border-at near theta high)

-- ---- halves
-- One of the four pieces.
abbrev pub quarter : Lane → Interval → Interval
quarter first i = lower_half (lower_half i)
quarter second i = upper_half (lower_half i)
quarter third i = lower_half (upper_half i)
quarter fourth i = upper_half (upper_half i)

-- f over the 2 ^ d parts of the interval between two numbers, in rising order.
unfoldable pub fold_halves : {A : Type 0} → (Float → Float → A → A) → ℕ → Float → Float → A → A
fold_halves f zero low high u = f low high u
fold_halves f (suc d) low high u =
    let mid = Interval-midpoint (between low high) in
    fold_halves f d mid high (fold_halves f d low mid u)

-- ---- four pieces
-- The boxes of the four pieces between two numbers, of the points p, joined to u.
unfoldable pub LanesVector-quarters : PoseConstants → Quaternion → Matrix4x4 → Matrix4x4 → Float → Float → LanesVector → Float → Float → LanesVector
    → LanesVector
LanesVector-quarters a q s0 s1 pad0 pad1 p low high u =
    LanesVector-pieces a q s0 s1 pad0 pad1 p (LanesBorders-quarters (is_near a) a.theta low high) u

-- ---- all pieces
-- The lean box over an interval of dt, as three intervals.
unfoldable pub lean_over : PoseConstants → Matrix4x4 → Matrix4x4 → Float → Float → Bounds3f → Interval → IntervalVector
lean_over a s0 s1 pad0 pad1 b i = LeanPose-vector (LeanPose-over a s0 s1 pad0 pad1 i) (Bounds3f-intervals b)

-- A lane: its piece of each four, joined to u.
unfoldable pub join_quarter : (Interval → IntervalVector) → Lane → Float → Float → IntervalVector → IntervalVector
join_quarter f l low high u = IntervalVector-join u (f (quarter l (between low high)))

unfoldable pub lane_halves : (Interval → IntervalVector) → ℕ → Interval → IntervalVector → Lane → IntervalVector
lane_halves f d i u l = fold_halves (join_quarter f l) d i.low i.high u

-- The four lanes, joined.
unfoldable pub Halves-union : PoseConstants → Matrix4x4 → Matrix4x4 → Float → Float → Bounds3f → ℕ → Interval → Bounds3f → Bounds3f
Halves-union a s0 s1 pad0 pad1 b d i u =
    LanesVector-joined (LanesVector-of (lane_halves (lean_over a s0 s1 pad0 pad1 b) d i (Bounds3f-intervals u)))
