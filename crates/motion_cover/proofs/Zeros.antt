-- The corners of a box that a cover works out are finite values of binary32, since each is grown by its pad (`motion-valued`). So the box with its zeros +0 lies in it,
-- and it in that box: `zeros_within`, `zeros-around`.
use Prim.Native.Nat.{ℕ, zero, suc, ◌^◌}
use mathlib.Core.Path.{◌≡◌, sym, subst}
use mathlib.Core.Bool.{Bool, true, false, cond}
use lib.Dec.{T}
use lib.Ieee.{Float, binary32, fits}
use lib.Ieee.Fits.{add-fits, sub-fits}
use Rattle.stored_box.specs.float32.MinMax.{max_num}
use Rattle.stored_box.proofs.float32.MinMax.{min-picks, max-picks}
use Rattle.stored_box.specs.bounds3.declared.Point3f.{Point3f}
use Rattle.stored_box.specs.bounds3.declared.Bounds3f.{Bounds3f}
use Rattle.stored_box.specs.bounds3.Point3f.{Point3f-min, Point3f-max}
use Rattle.stored_box.specs.bounds3.Bounds3f.{Bounds3f-union_bounds}
use Rattle.stored_box.specs.bounds3.Finite.{Bounds3f-is_finite}
use Rattle.stored_box.specs.bounds3.Inside.{Subset}
use Rattle.stored_box.proofs.bounds3.Finite.{union-finite}
use Rattle.stored_box.specs.transform.declared.Transform.{Transform}
use Rattle.stored_box.specs.transform.declared.BoundsAnswer.{BoundsAnswer}
use Rattle.stored_box.specs.transform.declared.BoundsAnswer.TheVariants.{Bounds}
use Rattle.stored_box.specs.bounds_query.Query.{BoundsAnswer-union_bounds}
use Rattle.stored_box.specs.bounds_query.Zeros.{Bounds3f-positive_zeros}
use Rattle.stored_box.proofs.bounds_query.Union.{union-accepted}
use Rattle.stored_box.specs.interval.Judged.{Judged}
use Rattle.stored_box.specs.unit_interval.Unit.{slice}
use Rattle.stored_box.specs.pose_steps.declared.PoseConstants.{PoseConstants}
use Rattle.motion_point.specs.animated_transform.declared.AnimatedTransform.{AnimatedTransform}
use Rattle.motion_point.specs.TransformPoint.{AnimatedTransform-constants}
use Rattle.motion_pad.specs.Pad.{Pad-enclose, Pad-stored}
use Rattle.motion_pad.specs.Grow.{Bounds3f-grow, BoundsAnswer-grow}
use Rattle.motion_pad.proofs.Box.{Binary32, grow-accepted, zeros-subset}
use Rattle.motion_cover.specs.Cover.{Transform-enclose_padded, AnimatedTransform-enclose_bounds, AnimatedTransform-enclose_ends, union_slices}
use Rattle.motion_cover.specs.Cover.{AnimatedTransform-enclose_motion}

pub record Values (box : Bounds3f) : Type 0 where
  pub finite : T (Bounds3f-is_finite box)
  pub low : Binary32 box.p_min
  pub high : Binary32 box.p_max

-- Where the answer is a box, it is one of such values.
pub record Valued (r : BoundsAnswer) : Type 0 where
  pub values : (box : Bounds3f) → r ≡ Bounds box → Values box

-- ---- a box that has grown, and unions
pub grow-valued : (pad : Judged) (r : BoundsAnswer) → Valued (BoundsAnswer-grow pad r)
unfolding Bounds3f-grow
grow-valued pad r = record {
  values = λ box e.
      let g = grow-accepted pad r box e in
      subst Values g.grown
      (record {
        finite = g.finite;
        low = record { x = sub-fits binary32 _ _; y = sub-fits binary32 _ _; z = sub-fits binary32 _ _ };
        high = record { x = add-fits binary32 _ _; y = add-fits binary32 _ _; z = add-fits binary32 _ _ };
      });
}

union-values : {a b : Bounds3f} → Values a → Values b → Values (Bounds3f-union_bounds a b)
unfolding Bounds3f-union_bounds Point3f-min Point3f-max
union-values {a} {b} v w =
    let P : Float → Type 0 = λ x. T (fits binary32 x) in
    record {
      finite = union-finite a b v.finite w.finite;
      low = record {
        x = min-picks P _ _ v.low.x w.low.x;
        y = min-picks P _ _ v.low.y w.low.y;
        z = min-picks P _ _ v.low.z w.low.z;
      };
      high = record {
        x = max-picks P _ _ v.high.x w.high.x;
        y = max-picks P _ _ v.high.y w.high.y;
        z = max-picks P _ _ v.high.z w.high.z;
      };
    }

pub union-valued : (r s : BoundsAnswer) → Valued r → Valued s → Valued (BoundsAnswer-union_bounds r s)
union-valued r s v w = record {
  values = λ box e.
      let j = union-accepted r s box e in
      subst Values j.union (union-values (v.values j.left j.left-accepted) (w.values j.right j.right-accepted));
}

-- ---- the work of a cover
pub stored-valued : (pad : Float) (t : Transform) (b : Bounds3f) → Valued (Transform-enclose_padded pad t b)
unfolding Transform-enclose_padded
stored-valued pad t b = grow-valued (Pad-stored pad) _

pub piece-valued : (m : AnimatedTransform) (a : PoseConstants) (b : Bounds3f) (d k : ℕ) → Valued (AnimatedTransform-enclose_bounds m a (slice d k) b)
unfolding AnimatedTransform-enclose_bounds
piece-valued m a b d k = grow-valued (Pad-enclose m.pad0 m.pad1 (slice d k)) _

slices-valued : (m : AnimatedTransform) (a : PoseConstants) (b : Bounds3f) (d : ℕ) (r : BoundsAnswer) → Valued r → (k : ℕ) → Valued (union_slices m a b d r k)
unfolding union_slices
slices-valued m a b d r v zero = v
slices-valued m a b d r v (suc k) =
    union-valued (union_slices m a b d r k) (AnimatedTransform-enclose_bounds m a (slice d k) b) (slices-valued m a b d r v k) (piece-valued m a b d k)

pub motion-valued : (m : AnimatedTransform) (b : Bounds3f) (d : ℕ) → Valued (AnimatedTransform-enclose_motion m b d)
unfolding AnimatedTransform-enclose_motion AnimatedTransform-enclose_ends
motion-valued m b d = go m.actually_animated
  where
    slices : BoundsAnswer
    slices = union_slices m (AnimatedTransform-constants m) b d (AnimatedTransform-enclose_ends m b) (2 ^ d)

    go : (c : Bool) → Valued (cond c slices (Transform-enclose_padded (max_num m.pad0 m.pad1) m.start_transform b))
    go true =
        slices-valued m (AnimatedTransform-constants m) b d _
        (union-valued _ _ (stored-valued m.pad0 m.start_transform b) (stored-valued m.pad1 m.end_transform b)) (2 ^ d)
    go false = stored-valued (max_num m.pad0 m.pad1) m.start_transform b

-- ---- its box and the box with its zeros +0 lie in each other
pub zeros_within : {box : Bounds3f} → Values box → Subset (Bounds3f-positive_zeros box) box
zeros_within v = (zeros-subset v.finite v.low v.high).0

pub zeros-around : {box : Bounds3f} → Values box → Subset box (Bounds3f-positive_zeros box)
zeros-around v = (zeros-subset v.finite v.low v.high).1
