-- Groups of lean slices are the cover's own, with zeros +0: `groups-answer`. Coarse slices are at most four: `coarse-small`.
use Prim.Native.Nat.{ℕ, ◌+◌, ◌-◌, ◌*◌, ◌/◌, ◌^◌, ◌≤◌}
use mathlib.Core.Path.{◌≡◌, refl, sym, ap, subst, ◌∙◌}
use mathlib.Core.Bool.{Bool, true, false, cond}
use native.Mathlib.Omega.{arith}
use lib.Dec.{T}
use lib.Pow.{pow-add}
use Rattle.bounds3.specs.declared.Bounds3f.{Bounds3f}
use Rattle.transform.specs.matrix4x4.declared.Matrix4x4.{Matrix4x4}
use lib.Ieee.{Float}
use Rattle.transform.specs.declared.BoundsAnswer.{BoundsAnswer}
use Rattle.transform.specs.declared.BoundsAnswer.TheVariants.{Bounds, Refused}
use Rattle.bounds_query.specs.Zeros.{Bounds3f-positive_zeros, BoundsAnswer-positive_zeros}
use Rattle.pose_steps.specs.unit_interval.Unit.{slice}
use Rattle.pose_steps.specs.declared.PoseConstants.{PoseConstants}
use Rattle.pose_steps.specs.declared.IntervalVector.{IntervalVector}
use Rattle.pose_steps.specs.Pose.{is_near}
use Rattle.pose_steps.specs.Enclose.{Bounds3f-intervals, IntervalVector-bounds}
use Rattle.cover_groups.specs.pose_lean.means.Lean.{LeanPose-over, LeanPose-vector}
use Rattle.animated_transform.specs.declared.AnimatedTransform.{AnimatedTransform}
use Rattle.motion_piece.specs.motion_cover.Cover.{union_slices}
use Rattle.motion_piece.proofs.motion_cover.Proper.{box-refines}
use Rattle.cover_groups.specs.lanes.means.Lanes.{Lanes-of, Interval-join, Lanes-joined}
use Rattle.cover_groups.specs.lanes_rotation.means.Matrices.{LanesVector-of}
use Rattle.cover_groups.specs.lanes_box.means.Boxes.{IntervalVector-join, LanesVector-joined}
use Rattle.cover_groups.specs.means.Groups.{lean_piece, lane_union, Groups-union}
use Rattle.cover_test.specs.cover_lean.means.Union.{stride, in_pairs}
use Rattle.cover_test.proofs.cover_lean.Test.{tested-enclosable}
use Rattle.cover_test.proofs.cover_lean.Union.{Answered, lanes-zeros}
use Rattle.cover_slices.specs.means.Lean.{coarse_depth, BoundsAnswer-is_box, Lean}

-- The four lanes, joined in pairs.
lanes-paired : (a : PoseConstants) (s0 s1 : Matrix4x4) (pad0 pad1 : Float) (b : Bounds3f) (h n : ℕ) (first : Bounds3f)
    → IntervalVector-bounds (in_pairs
    (λ (l : ℕ). stride (λ (k : ℕ). LeanPose-vector (LeanPose-over a s0 s1 pad0 pad1 (slice h k)) (Bounds3f-intervals b)) l n (Bounds3f-intervals first)))
    ≡ Groups-union a s0 s1 pad0 pad1 b h n first
unfolding Groups-union LanesVector-joined Lanes-joined LanesVector-of Lanes-of lane_union lean_piece IntervalVector-join Interval-join
lanes-paired a s0 s1 pad0 pad1 b h n first = refl

pub box-answered : (r : BoundsAnswer) → T (BoundsAnswer-is_box r) → Answered r
box-answered (Bounds b) h = record { box = b; accepted = refl }
box-answered (Refused n) h = absurd h

module _ (m : AnimatedTransform) (a : PoseConstants) (b first : Bounds3f) (lean : Lean m a b first) where
  finer : (n : ℕ) → 2 ≤ coarse_depth a + n
      → BoundsAnswer-positive_zeros (union_slices m a b (coarse_depth a + n) (Bounds first) (2 ^ (coarse_depth a + n)))
      ≡ Bounds (Bounds3f-positive_zeros (Groups-union a m.s0 m.s1 m.pad0 m.pad1 b (coarse_depth a + n) (2 ^ (coarse_depth a + n) / 4) first))
  finer n l =
      let d = coarse_depth a in
      let v = lean.numbers in
      let c = box-answered (union_slices m a b d (Bounds first) (2 ^ d)) lean.coarse in
      let e : d + n ≡ 2 + (d + n - 2) = omega (arith, l) in
      let fours = ap (λ (k : ℕ). 2 ^ k) e ∙ pow-add 2 2 (d + n - 2) in
      let whole : 4 * (2 ^ (d + n) / 4) ≡ 2 ^ (d + n) = omega (arith, fours) in
      subst (λ (x : Bounds3f). BoundsAnswer-positive_zeros (union_slices m a b (d + n) (Bounds first) (2 ^ (d + n))) ≡ Bounds (Bounds3f-positive_zeros x))
      (lanes-paired a m.s0 m.s1 m.pad0 m.pad1 b (d + n) (2 ^ (d + n) / 4) first)
      (lanes-zeros m a b (tested-enclosable a m.s0 m.s1 m.pad0 m.pad1 v.pad0-number v.pad1-number lean.parts)
      (record { constants = v.constants; scale0 = v.scale0; scale1 = v.scale1 }) (box-refines b lean.ordered) lean.corners d n first c.box lean.start
      c.accepted (2 ^ (d + n) / 4) whole)

  pub groups-answer : (h : ℕ) → 2 ≤ h → coarse_depth a ≤ h → BoundsAnswer-positive_zeros (union_slices m a b h (Bounds first) (2 ^ h))
      ≡ Bounds (Bounds3f-positive_zeros (Groups-union a m.s0 m.s1 m.pad0 m.pad1 b h (2 ^ h / 4) first))
  groups-answer h l g =
      let e : coarse_depth a + (h - coarse_depth a) ≡ h = omega (arith, g) in
      subst
      (λ (k : ℕ). BoundsAnswer-positive_zeros (union_slices m a b k (Bounds first) (2 ^ k))
      ≡ Bounds (Bounds3f-positive_zeros (Groups-union a m.s0 m.s1 m.pad0 m.pad1 b k (2 ^ k / 4) first))) e
      (finer (h - coarse_depth a) (subst (λ (k : ℕ). 2 ≤ k) (sym e) l))

-- A coarse depth is a cover's.
pub coarse-small : (a : PoseConstants) → coarse_depth a ≤ 2
unfolding coarse_depth
coarse-small a = go (is_near a)
  where
    go : (t : Bool) → cond t 2 0 ≤ 2
    go true = omega arith
    go false = omega arith
