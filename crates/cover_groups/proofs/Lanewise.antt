-- Four slices in lanes are the slices lane by lane: `pieces-lanes`, `group-lanes`; so all groups are (`groups-lanes`). A piece with its borders at hand is the lean one
-- over its slice: `by_over`.
use Prim.Native.Nat.{ℕ, zero, suc, ◌+◌, ◌*◌, ◌^◌, ◌≤◌, ◌<◌}
use mathlib.Core.Path.{◌≡◌, refl, sym, ap, ◌∙◌}
use mathlib.Core.Bool.{Bool, true, false, cond}
use mathlib.Core.List.{[], ◌∷◌}
use native.Mathlib.Omega.{arith}
use lib.Ieee.{Float}
use Rattle.pose_steps.specs.control_flow.Loop.{loop}
use Rattle.bounds3.specs.float32.Operators.{◌⊕◌, ◌⊗◌, positive_zero, one}
use Rattle.trig.specs.SinCos.{sin, cos}
use Rattle.quaternion.specs.declared.Quaternion.{Quaternion}
use Rattle.matrix4x4.specs.declared.Matrix4x4.{Matrix4x4}
use Rattle.bounds3.specs.declared.Bounds3f.{Bounds3f}
use Rattle.lanes.specs.interval.declared.Interval.{Interval}
use Rattle.pose_steps.specs.unit_interval.Unit.{slice_end, slice}
use Rattle.pose_steps.proofs.unit_interval.Slices.{slice_end-next}
use Rattle.pose_steps.specs.declared.PoseConstants.{PoseConstants}
use Rattle.pose_steps.specs.declared.IntervalVector.{IntervalVector}
use Rattle.pose_steps.specs.declared.IntervalQuaternion.{IntervalQuaternion}
use Rattle.pose_steps.specs.Pose.{is_near}
use Rattle.pose_steps.specs.Enclose.{Bounds3f-intervals}
use Rattle.lanes_rotation.specs.pose_lean.means.Lean.{one_minus, at_borders, slerp_by, second_by, Lean-slerp, rotation, linear_by, shifted, pad_high, LeanPose, LeanPose-over, LeanPose-vector}
use Rattle.lanes.specs.declared.Lanes.{Lanes}
use Rattle.lanes.specs.means.Lanes.{Lane, place, Lanes-lane, Lanes-of}
use Rattle.lanes_rotation.specs.declared.LanesVector.{LanesVector}
use Rattle.lanes_rotation.specs.means.Matrices.{LanesVector-lane, LanesVector-of, LanesMatrix-lane, LanesMatrix-of}
use Rattle.lanes_pose.specs.declared.LanesPose.{LanesPose}
use Rattle.lanes_pose.specs.means.Poses.{LeanPose-by, LanesPose-of, LanesPose-lane, lanewise}
use Rattle.lanes_box.specs.means.Boxes.{IntervalVector-join}
use Rattle.cover_groups.specs.declared.Border.{Border}
use Rattle.cover_groups.specs.declared.LanesBorders.{LanesBorders}
use Rattle.cover_groups.specs.means.Groups.{Lanes-ends, Border-at, LanesBorders-from, LanesBorders-of, LanesBorders-at, LanesBorders-steps, Border-last, LanesVector-pieces, LanesVector-group}
use Rattle.cover_groups.specs.means.Groups.{lean_piece, lane_union}

-- ---- each stage in lanes, as its contract has it
unfoldable pub pose_lanes : PoseConstants → Quaternion → Matrix4x4 → Matrix4x4 → Float → Float → Lanes → Lanes → Lanes → LanesPose
pose_lanes a second s0 s1 pad0 pad1 dt c s =
    LanesPose-of (λ (k : Lane). LeanPose-by a second s0 s1 pad0 pad1 (Lanes-lane k dt) (Lanes-lane k c) (Lanes-lane k s))

unfoldable pub box_lanes : LanesPose → LanesVector → LanesVector
box_lanes pose p = LanesVector-of (λ (k : Lane). LeanPose-vector (LanesPose-lane k pose) (LanesVector-lane k p))

unfoldable pub join_lanes : LanesVector → LanesVector → LanesVector
join_lanes u v = LanesVector-of (λ (k : Lane). IntervalVector-join (LanesVector-lane k u) (LanesVector-lane k v))

module _ (a : PoseConstants) (second : Quaternion) (s0 s1 : Matrix4x4) (pad0 pad1 : Float) where
  pub pieces-lanes : (p : LanesVector) (g : LanesBorders) (u : LanesVector)
      → join_lanes u (box_lanes (pose_lanes a second s0 s1 pad0 pad1 g.dt g.cos g.sin) p) ≡ LanesVector-pieces a second s0 s1 pad0 pad1 p g u
  unfolding pose_lanes box_lanes join_lanes LanesVector-pieces LanesPose-of LanesPose-lane lanewise
  pieces-lanes p g u = refl

-- ---- borders
module _ (near : Bool) (theta : Float) (h : ℕ) where
  pub last-border : (k : ℕ) → Border-last (LanesBorders-at near theta h k) ≡ Border-at near theta (slice_end h (k + 4))
  unfolding LanesBorders-at LanesBorders-of Lanes-ends
  last-border k = refl

  -- A border that is one at some dt is the one at its own.
  pub border-own : {b : Border} (t : Float) → b ≡ Border-at near theta t → b ≡ Border-at near theta b.dt
  unfolding Border-at
  border-own {b} t e = let own : b.dt ≡ t = λ i. (e i).dt in e ∙ λ i. Border-at near theta (sym own i)

  -- Steps of the width go from border to border.
  pub steps-at : (k : ℕ) {b : Border} {w : Float} → h ≤ 12 → k + 4 ≤ 2 ^ h → w ≡ slice_end h 1 → b ≡ Border-at near theta (slice_end h k)
      → LanesBorders-steps near theta w b.dt ≡ LanesBorders-at near theta h k
  unfolding LanesBorders-steps LanesBorders-at Border-at
  steps-at k {b} {w} d l ew eb =
      let x : ℕ → Float = slice_end h in
      let v = x 1 in
      let e1 : x k ⊕ v ≡ x (k + 1) = slice_end-next h k d (omega (arith, l)) in
      let e2 : (x k ⊕ v) ⊕ v ≡ x (k + 2) = on e1 ∙ next (k + 1) (k + 2) (omega arith) (omega (arith, l)) in
      let e3 : ((x k ⊕ v) ⊕ v) ⊕ v ≡ x (k + 3) = on e2 ∙ next (k + 2) (k + 3) (omega arith) (omega (arith, l)) in
      let e4 : (((x k ⊕ v) ⊕ v) ⊕ v) ⊕ v ≡ x (k + 4) = on e3 ∙ next (k + 3) (k + 4) (omega arith) (omega (arith, l)) in
      (λ i. LanesBorders-steps near theta (ew i) (eb i).dt)
      ∙ λ i. LanesBorders-of (Border-at near theta (x k)) (Border-at near theta (e1 i)) (Border-at near theta (e2 i)) (Border-at near theta (e3 i))
      (Border-at near theta (e4 i))
    where
      on : {s t : Float} → s ≡ t → s ⊕ slice_end h 1 ≡ t ⊕ slice_end h 1
      on e = λ i. e i ⊕ slice_end h 1

      next : (j m : ℕ) → j + 1 ≡ m → j < 2 ^ h → slice_end h j ⊕ slice_end h 1 ≡ slice_end h m
      next j m e j<n = slice_end-next h j d j<n ∙ ap (slice_end h) e

  -- The next group begins where this one ends.
  pub border-next : (g : ℕ) → Border-at near theta (slice_end h (4 * g + 4)) ≡ Border-at near theta (slice_end h (4 * (g + 1)))
  border-next g = let e : 4 * g + 4 ≡ 4 * (g + 1) = omega arith in λ i. Border-at near theta (slice_end h (e i))

-- A number at the borders of a slice, or one that is not asked for.
unfoldable pub at_ends : Bool → Float → (Float → Float) → Float → Interval → Interval
at_ends near none f theta T = record { low = cond near none (f (theta ⊗ T.low)); high = cond near none (f (theta ⊗ T.high)) }

unfoldable pub LanesBorders-slices : Bool → Float → (Lane → Interval) → LanesBorders
LanesBorders-slices near theta T =
    LanesBorders-from (Lanes-of T) (Lanes-of (λ (l : Lane). at_ends near one cos theta (T l))) (Lanes-of (λ (l : Lane). at_ends near positive_zero sin theta (T l)))

-- The borders k to k + 4 are the ends of the slices k to k + 3.
pub borders-slices : (near : Bool) (theta : Float) (h k : ℕ) → LanesBorders-at near theta h k ≡ LanesBorders-slices near theta (λ (l : Lane). slice h (k + place l))
unfolding LanesBorders-at LanesBorders-of LanesBorders-from LanesBorders-slices Lanes-ends Border-at at_ends slice lanewise
borders-slices near theta h k =
    let e0 : k ≡ k + 0 = omega arith in
    let f0 : k + 1 ≡ k + 0 + 1 = omega arith in
    let f1 : k + 2 ≡ k + 1 + 1 = omega arith in
    let f2 : k + 3 ≡ k + 2 + 1 = omega arith in
    let f3 : k + 4 ≡ k + 3 + 1 = omega arith in
    let c : Float → Float = λ t. cond near one (cos (theta ⊗ t)) in
    let s : Float → Float = λ t. cond near positive_zero (sin (theta ⊗ t)) in
    let x : ℕ → Float = slice_end h in
    λ i. record {
      dt = record { low = x (e0 i) ∷ x (k + 1) ∷ x (k + 2) ∷ x (k + 3) ∷ []; high = x (f0 i) ∷ x (f1 i) ∷ x (f2 i) ∷ x (f3 i) ∷ [] };
      cos = record { low = c (x (e0 i)) ∷ c (x (k + 1)) ∷ c (x (k + 2)) ∷ c (x (k + 3)) ∷ []; high = c (x (f0 i)) ∷ c (x (f1 i)) ∷ c (x (f2 i)) ∷ c (x (f3 i)) ∷ [] };
      sin = record { low = s (x (e0 i)) ∷ s (x (k + 1)) ∷ s (x (k + 2)) ∷ s (x (k + 3)) ∷ []; high = s (x (f0 i)) ∷ s (x (f1 i)) ∷ s (x (f2 i)) ∷ s (x (f3 i)) ∷ [] };
    }

-- ---- a piece
-- Near slerp asks for no angle; far slerp's are at the borders.
slerp-ends : (near : Bool) (q p : Quaternion) (theta : Float) (T : Interval)
    → slerp_by near q p T (at_ends near one cos theta T) (at_ends near positive_zero sin theta T) ≡ slerp_by near q p T (at_borders cos theta T) (at_borders sin theta T)
unfolding slerp_by at_ends at_borders
slerp-ends true q p theta T = refl
slerp-ends false q p theta T = refl

module _ (a : PoseConstants) (s0 s1 : Matrix4x4) (pad0 pad1 : Float) where
  by_over : (T : Interval)
      → LeanPose-by a (second_by (is_near a) a) s0 s1 pad0 pad1 T (at_ends (is_near a) one cos a.theta T) (at_ends (is_near a) positive_zero sin a.theta T)
      ≡ LeanPose-over a s0 s1 pad0 pad1 T
  unfolding LeanPose-by LeanPose-over Lean-slerp
  by_over T = λ i. record {
    linear = linear_by a.rigid (rotation (slerp-ends (is_near a) a.r0 (second_by (is_near a) a) a.theta T i)) s0 s1 (one_minus T) T;
    translation = shifted a.t0 a.t1 (one_minus T) T;
    pad = pad_high pad0 pad1 (one_minus T) T;
  }

  module _ (b : Bounds3f) where
    -- ---- a group
    points : LanesVector
    points = LanesVector-of (λ (l : Lane). Bounds3f-intervals b)

    lanes-apart : (T : Lane → Interval) (f : Lane → IntervalVector)
        → LanesVector-pieces a (second_by (is_near a) a) s0 s1 pad0 pad1 points (LanesBorders-slices (is_near a) a.theta T) (LanesVector-of f)
        ≡ LanesVector-of (λ (l : Lane). IntervalVector-join (f l)
        (LeanPose-vector
        (LeanPose-by a (second_by (is_near a) a) s0 s1 pad0 pad1 (T l) (at_ends (is_near a) one cos a.theta (T l)) (at_ends (is_near a) positive_zero sin a.theta (T l)))
        (Bounds3f-intervals b)))
    unfolding points LanesVector-pieces LanesBorders-slices LanesBorders-from lanewise
    lanes-apart T f = refl

    -- Any four intervals of dt.
    pub pieces-apart : (T : Lane → Interval) (f : Lane → IntervalVector)
        → LanesVector-pieces a (second_by (is_near a) a) s0 s1 pad0 pad1 (LanesVector-of (λ (l : Lane). Bounds3f-intervals b))
        (LanesBorders-slices (is_near a) a.theta T) (LanesVector-of f)
        ≡ LanesVector-of (λ (l : Lane). IntervalVector-join (f l) (LeanPose-vector (LeanPose-over a s0 s1 pad0 pad1 (T l)) (Bounds3f-intervals b)))
    unfolding points
    pieces-apart T f =
        lanes-apart T f ∙ λ i. LanesVector-of (λ (l : Lane). IntervalVector-join (f l) (LeanPose-vector (by_over (T l) i) (Bounds3f-intervals b)))

    module _ (h : ℕ) where
      group-lanes : (g : ℕ) (f : Lane → IntervalVector) → LanesVector-group a (second_by (is_near a) a) s0 s1 pad0 pad1 points h g (LanesVector-of f)
          ≡ LanesVector-of (λ (l : Lane). IntervalVector-join (f l) (lean_piece a s0 s1 pad0 pad1 b h (4 * g + place l)))
      unfolding LanesVector-group lean_piece points
      group-lanes g f =
          (λ i. LanesVector-pieces a (second_by (is_near a) a) s0 s1 pad0 pad1 points (borders-slices (is_near a) a.theta h (4 * g) i) (LanesVector-of f))
          ∙ pieces-apart (λ (l : Lane). slice h (4 * g + place l)) f

      -- ---- all groups
      pub groups-lanes : (n : ℕ) (u : IntervalVector)
          → loop (LanesVector-group a (second_by (is_near a) a) s0 s1 pad0 pad1 (LanesVector-of (λ (l : Lane). Bounds3f-intervals b)) h) n (LanesVector-of (λ (l : Lane). u))
          ≡ LanesVector-of (lane_union a s0 s1 pad0 pad1 b h n u)
      unfolding loop lane_union points
      groups-lanes zero u = refl
      groups-lanes (suc n) u =
          ap (LanesVector-group a (second_by (is_near a) a) s0 s1 pad0 pad1 points h n) (groups-lanes n u) ∙ group-lanes n (lane_union a s0 s1 pad0 pad1 b h n u)
