-- Each box that a window asks for has finite numbers (`stage-valued`, `first-valued`). So what is joined to answers that are the same is the same:
-- `stage-same`.
use Prim.Native.Nat.{ℕ}
use mathlib.Core.Path.{◌≡◌, sym, subst}
use mathlib.Core.Bool.{Bool}
use mathlib.Core.List.{List, [], ◌∷◌, map}
use lib.Dec.{eqb}
use lib.Ieee.{of_bits, neg}
use Rattle.transform.proofs.control_flow.Choice.{cond-keeps}
use Rattle.float32.specs.MinMax.{max_num}
use Rattle.bounds3.specs.declared.Bounds3f.{Bounds3f}
use Rattle.bounds3.specs.Bounds3f.{Bounds3f-default}
use Rattle.bounds3.specs.Finite.{Point3f-is_finite, Bounds3f-is_finite}
use Rattle.bounds3.specs.Inside.{Subset}
use Rattle.bounds3.proofs.Union.{finite-self}
use Rattle.transform.specs.declared.BoundsAnswer.{BoundsAnswer}
use Rattle.transform.specs.declared.BoundsAnswer.TheVariants.{Bounds}
use Rattle.bounds_query.specs.Same.{BoundsAnswer-Same, same-box}
use Rattle.dt_share.specs.interval.declared.Interval.{Interval}
use Rattle.dt_share.specs.Share.{pieces}
use Rattle.animated_transform.specs.declared.AnimatedTransform.{AnimatedTransform}
use Rattle.motion_point.specs.TransformPoint.{AnimatedTransform-constants}
use Rattle.motion_piece.specs.motion_pad.Pad.{Pad-enclose}
use Rattle.motion_piece.specs.motion_cover.Cover.{AnimatedTransform-enclose_bounds}
use Rattle.motion_piece.proofs.motion_cover.Zeros.{Valued, grow-valued, stored-valued}
use Rattle.chain_rows.specs.bounds_answers.UnionAll.{BoundsAnswer-union_all, Each}
use Rattle.window_times.specs.declared.Window.{Window}
use Rattle.window_times.specs.Window.{Window-asks_first, Window-asks_end}
use Rattle.chain_window.specs.Cover.{moves_in, share_in, stays_in, start_box, end_box, equal_box, slice_boxes, first_pose_boxes, end_pose_boxes, equal_pose_boxes}
use Rattle.window_slices.proofs.Same.{union-all-same}
use Rattle.window_cover.specs.means.Stage.{stage_boxes}

-- pbrt's empty box is finite.
pub default-same : {b : Bounds3f} → b ≡ Bounds3f-default → BoundsAnswer-Same (Bounds b) (Bounds Bounds3f-default)
default-same e = subst (λ (x : Bounds3f). BoundsAnswer-Same (Bounds x) (Bounds Bounds3f-default)) (sym e) (same-box own own)
  where
    own : Subset Bounds3f-default Bounds3f-default
    own = finite-self (unfold of_bits neg Bounds3f-is_finite Point3f-is_finite in tt)

module _ (b : Bounds3f) (w : Window) (m : AnimatedTransform) where
  slices-valued : (d : ℕ) → Each Valued (slice_boxes b d w m)
  unfolding slice_boxes AnimatedTransform-enclose_bounds
  slices-valued d = cond-keeps (Each Valued) (moves_in w m) _ [] (all (pieces d (share_in w m))) tt
    where
      all : (l : List Interval) → Each Valued (map (λ (dt : Interval). AnimatedTransform-enclose_bounds m (AnimatedTransform-constants m) dt b) l)
      all [] = tt
      all (D ∷ l) = (grow-valued (Pad-enclose m.pad0 m.pad1 D) _, all l)

  pub first-valued : Each Valued (first_pose_boxes b w m)
  unfolding first_pose_boxes
  first-valued =
      cond-keeps (Each Valued) (Window-asks_first w m.start_time) (start_box m b ∷ []) [] (stored-valued m.pad0 m.start_transform b, tt) tt

  ends-valued : (last : Bool) → Each Valued (end_pose_boxes b w last m)
  unfolding end_pose_boxes
  ends-valued last =
      cond-keeps (Each Valued) (Window-asks_end w last m.end_time) (end_box m b ∷ []) [] (stored-valued m.pad1 m.end_transform b, tt) tt

  equals-valued : (first last : Bool) → Each Valued (equal_pose_boxes b w first last m)
  unfolding equal_pose_boxes
  equals-valued first last =
      cond-keeps (Each Valued) (stays_in w first last m) (equal_box m b ∷ []) [] (stored-valued (max_num m.pad0 m.pad1) m.start_transform b, tt) tt

  stage-valued : (d k : ℕ) (first last : Bool) → Each Valued (stage_boxes b d w k first last m)
  unfolding stage_boxes
  stage-valued d k first last =
      cond-keeps (Each Valued) (eqb k 0) (slice_boxes b d w m) _ (slices-valued d)
      (cond-keeps (Each Valued) (eqb k 1) (end_pose_boxes b w last m) (equal_pose_boxes b w first last m) (ends-valued last) (equals-valued first last))

  pub stage-same : (d k : ℕ) (first last : Bool) {r u : BoundsAnswer} → u ≡ BoundsAnswer-union_all r (stage_boxes b d w k first last m)
      → (s : BoundsAnswer) → BoundsAnswer-Same r s → BoundsAnswer-Same u (BoundsAnswer-union_all s (stage_boxes b d w k first last m))
  stage-same d k first last e s h =
      subst (λ (x : BoundsAnswer). BoundsAnswer-Same x (BoundsAnswer-union_all s (stage_boxes b d w k first last m))) (sym e)
      (union-all-same h (stage_boxes b d w k first last m) (stage-valued d k first last))
