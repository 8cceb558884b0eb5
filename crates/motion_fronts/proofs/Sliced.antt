-- The loop over the slices of dt: after k of them the answers are the unions with the first k (`Sliced`); `sliced-first`, `sliced-next`, `sliced-last`.
use Prim.Native.Nat.{ℕ, ◌+◌, ◌^◌, ◌≤◌}
use mathlib.Core.Path.{◌≡◌, subst}
use mathlib.Core.Bool.{false}
use mathlib.Core.List.{List}
use native.Mathlib.Numerals.{add-one}
use lib.ListN.{length}
use lib.Ieee.{Float}
use Rattle.motion_pad.specs.bounds3.declared.Bounds3f.{Bounds3f}
use Rattle.motion_pad.specs.transform.declared.BoundsAnswer.{BoundsAnswer}
use Rattle.motion_pad.specs.bounds_query.Query.{BoundsAnswer-union_bounds}
use Rattle.motion_pad.specs.unit_interval.Unit.{slice}
use Rattle.motion_pad.specs.pose_steps.declared.PoseConstants.{PoseConstants}
use Rattle.motion_piece.specs.means.Piece.{PaddedPose}
use Rattle.animated_transform.specs.declared.AnimatedTransform.{AnimatedTransform}
use Rattle.motion_point.specs.TransformPoint.{AnimatedTransform-constants}
use Rattle.motion_piece.specs.motion_cover.Cover.{union_slices}
use Rattle.motion_piece.specs.means.Piece.{PaddedPose-enclose_bounds, PaddedPose-over}
use Rattle.motion_piece.proofs.Piece.{piece-composition}
use Rattle.box_front.specs.declared.Front.{Front}
use Rattle.box_front.specs.means.Front.{place_count, PaddedPose-front, PaddedPose-places}
use Rattle.motion_fronts.specs.means.Covered.{Covered, Continues}
use Rattle.motion_fronts.proofs.Front.{covered_same, take_next}

module _ (m : AnimatedTransform) (a : PoseConstants) (boxes : List (List Float)) (d : ℕ) (from : Front) (old : List (List Float)) where
  pub record Sliced (k : ℕ) (new : List (List Float)) (to : Front) : Type 0 where
    pub covered : Continues (λ answer b. union_slices m a b d (answer b) k) boxes old new from to

  pub sliced-first : Sliced 0 old from
  unfolding union_slices
  sliced-first = record { covered = λ answer first c. c }

  pub sliced-next : {k : ℕ} {new next : List (List Float)} {to then : Front} {pose : PaddedPose} → Sliced k new to → length boxes ≤ place_count
      → pose ≡ PaddedPose-over a m.s0 m.s1 m.pad0 m.pad1 (slice d k)
      → then ≡ PaddedPose-front pose boxes to → next ≡ PaddedPose-places false pose boxes to new → Sliced (k + 1) next then
  sliced-next {k} {new} {next} {to} {then} {pose} s l e t n =
      record {
        covered = λ answer first c.
            covered_same (one_more answer) (take_next (λ b. union_slices m a b d (answer b) k) pose boxes l (s.covered answer first c) t n);
      }
    where
      one_more : (answer : Bounds3f → BoundsAnswer) (b : Bounds3f)
          → BoundsAnswer-union_bounds (union_slices m a b d (answer b) k) (PaddedPose-enclose_bounds pose b) ≡ union_slices m a b d (answer b) (k + 1)
      one_more answer b = unfold union_slices in rw (add-one, e, piece-composition m a (slice d k) b)

  pub sliced-last : {k : ℕ} {new : List (List Float)} {to : Front} → Sliced k new to → k ≡ 2 ^ d → a ≡ AnimatedTransform-constants m
      → Continues (λ answer b. union_slices m (AnimatedTransform-constants m) b d (answer b) (2 ^ d)) boxes old new from to
  sliced-last {new = new} {to = to} s e f answer first c =
      subst (λ (x : PoseConstants). Covered (λ b. union_slices m x b d (answer b) (2 ^ d)) boxes first new to) f
      (subst (λ (j : ℕ). Covered (λ b. union_slices m a b d (answer b) j) boxes first new to) e (s.covered answer first c))
