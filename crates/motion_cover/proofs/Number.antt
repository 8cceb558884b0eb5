-- The numbers that a cover can give are 5, 6, 7, 8 and 10, for all structs and arguments: `cover-number`, `cover-numbered`; those of its work are 5 and 10:
-- `motion-number`. A union's is one of its parts'.
use Prim.Native.Nat.{ℕ, zero, suc, ◌^◌}
use mathlib.Core.Path.{refl, sym, subst}
use mathlib.Core.Bool.{Bool, true, false, cond}
use mathlib.Core.Logic.{inl, inr}
use mathlib.Core.List.{[], ◌∷◌}
use lib.Dec.{eqb}
use lib.Ieee.{Float}
use Rattle.stored_box.specs.float32.MinMax.{max_num}
use Rattle.stored_box.specs.bounds3.declared.Bounds3f.{Bounds3f}
use Rattle.stored_box.specs.interval.declared.Interval.{Interval}
use Rattle.stored_box.specs.interval.Judged.{Judged}
use Rattle.stored_box.specs.transform.declared.Transform.{Transform}
use Rattle.stored_box.specs.transform.declared.BoundsAnswer.{BoundsAnswer}
use Rattle.stored_box.specs.transform.declared.BoundsAnswer.TheVariants.{Bounds, Refused}
use Rattle.stored_box.specs.transform.Answer.{OneOf, BoundsAnswer-refusal}
use Rattle.stored_box.specs.bounds_query.Query.{cover_refusal}
use Rattle.stored_box.specs.bounds_query.Zeros.{BoundsAnswer-positive_zeros}
use Rattle.stored_box.proofs.bounds_query.Numbers.{arguments-keeps}
use Rattle.stored_box.proofs.bounds_query.Union.{union-keeps}
use Rattle.stored_box.proofs.bounds_query.Zeros.{zeros-refusal}
use Rattle.stored_box.specs.unit_interval.Unit.{slice}
use Rattle.stored_box.specs.pose_steps.declared.PoseConstants.{PoseConstants}
use Rattle.stored_box.specs.pose_steps.Judged.{JudgedVector}
use Rattle.stored_box.specs.pose_steps.Enclose.{IntervalMatrix-point, Pose-enclose_point, Bounds3f-intervals, IntervalVector-bounds}
use Rattle.stored_box.specs.pose_steps.Promise.{SliceNumber}
use Rattle.stored_box.proofs.pose_steps.Number.{transform_point-number, point-number}
use Rattle.stored_box.specs.EnclosePoints.{Transform-enclose_points}
use Rattle.motion_point.specs.animated_transform.declared.AnimatedTransform.{AnimatedTransform}
use Rattle.motion_point.specs.TransformPoint.{AnimatedTransform-constants}
use Rattle.motion_pad.specs.Pad.{Pad-enclose, Pad-stored}
use Rattle.motion_pad.specs.Grow.{BoundsAnswer-grow}
use Rattle.motion_pad.proofs.Pad.{PadNumber, pad-number}
use Rattle.motion_pad.proofs.Box.{grow-cases}
use Rattle.motion_cover.specs.Cover.{BoundsAnswer-from_enclosure, Transform-enclose_bounds, Transform-enclose_padded, AnimatedTransform-enclose_bounds}
use Rattle.motion_cover.specs.Cover.{AnimatedTransform-enclose_ends, union_slices, AnimatedTransform-enclose_motion, AnimatedTransform-cover}
use Rattle.motion_cover.specs.Answer.{CoverNumber, BoundsAnswer-Numbered}
use Rattle.motion_cover.proofs.NonZero.{bounds-numbered, cover-nonzero}

enclosure-number : (j : JudgedVector) → SliceNumber j.refusal → SliceNumber (BoundsAnswer-refusal (BoundsAnswer-from_enclosure j))
unfolding BoundsAnswer-from_enclosure
enclosure-number j n = go (eqb j.refusal 0)
  where
    go : (b : Bool) → SliceNumber (BoundsAnswer-refusal (cond b (Bounds (IntervalVector-bounds j.vector)) (Refused j.refusal)))
    go true = inl refl
    go false = n

grow-number : (pad : Judged) (r : BoundsAnswer) → PadNumber pad.refusal
    → SliceNumber (BoundsAnswer-refusal r) → SliceNumber (BoundsAnswer-refusal (BoundsAnswer-grow pad r))
grow-number pad r i n = grow-cases (λ s. SliceNumber (BoundsAnswer-refusal s)) pad r n (λ b. inl refl) (inr (inl refl)) (λ _. widen i)
  where
    widen : {n : ℕ} → PadNumber n → SliceNumber n
    widen (inl e) = inl e
    widen (inr e) = inr (inl e)

stored-number : (pad : Float) (t : Transform) (b : Bounds3f) → SliceNumber (BoundsAnswer-refusal (Transform-enclose_padded pad t b))
unfolding Transform-enclose_padded Transform-enclose_bounds
stored-number pad t b =
    grow-number (Pad-stored pad) _ (inl refl)
    (enclosure-number (Transform-enclose_points t b) (transform_point-number 0 (IntervalMatrix-point t.m) (Bounds3f-intervals b) (inl refl)))

piece-number : (m : AnimatedTransform) (a : PoseConstants) (D : Interval) (b : Bounds3f)
    → SliceNumber (BoundsAnswer-refusal (AnimatedTransform-enclose_bounds m a D b))
unfolding AnimatedTransform-enclose_bounds
piece-number m a D b =
    grow-number (Pad-enclose m.pad0 m.pad1 D) _ (pad-number m.pad0 m.pad1 D)
    (enclosure-number (Pose-enclose_point a m.s0 m.s1 D (Bounds3f-intervals b)) (point-number a m.s0 m.s1 D (Bounds3f-intervals b)))

slices-number : (m : AnimatedTransform) (a : PoseConstants) (b : Bounds3f) (d : ℕ) (r : BoundsAnswer) → SliceNumber (BoundsAnswer-refusal r)
    → (k : ℕ) → SliceNumber (BoundsAnswer-refusal (union_slices m a b d r k))
unfolding union_slices
slices-number m a b d r n zero = n
slices-number m a b d r n (suc k) =
    union-keeps SliceNumber (inl refl) (union_slices m a b d r k) (AnimatedTransform-enclose_bounds m a (slice d k) b)
    (slices-number m a b d r n k) (piece-number m a (slice d k) b)

pub motion-number : (m : AnimatedTransform) (b : Bounds3f) (d : ℕ) → SliceNumber (BoundsAnswer-refusal (AnimatedTransform-enclose_motion m b d))
unfolding AnimatedTransform-enclose_motion AnimatedTransform-enclose_ends
motion-number m b d = go m.actually_animated
  where
    go : (c : Bool) → SliceNumber (BoundsAnswer-refusal (cond c (union_slices m (AnimatedTransform-constants m) b d (AnimatedTransform-enclose_ends m b) (2 ^ d))
        (Transform-enclose_padded (max_num m.pad0 m.pad1) m.start_transform b)))
    go true =
        slices-number m (AnimatedTransform-constants m) b d (AnimatedTransform-enclose_ends m b)
        (union-keeps SliceNumber (inl refl)
        (Transform-enclose_padded m.pad0 m.start_transform b) (Transform-enclose_padded m.pad1 m.end_transform b)
        (stored-number m.pad0 m.start_transform b) (stored-number m.pad1 m.end_transform b))
        (2 ^ d)
    go false = stored-number (max_num m.pad0 m.pad1) m.start_transform b

pub cover-number : (m : AnimatedTransform) (b : Bounds3f) (d : ℕ) → CoverNumber (BoundsAnswer-refusal (AnimatedTransform-cover m b d))
unfolding AnimatedTransform-cover
cover-number m b d = go (eqb (cover_refusal b d) 0)
  where
    go : (c : Bool) → CoverNumber (BoundsAnswer-refusal (cond c (BoundsAnswer-positive_zeros (AnimatedTransform-enclose_motion m b d)) (Refused (cover_refusal b d))))
    go true = subst CoverNumber (sym (zeros-refusal (AnimatedTransform-enclose_motion m b d))) (inr (inr (inr (motion-number m b d))))
    go false = arguments-keeps CoverNumber b d (inr (inr (inr (inl refl)))) (inl refl) (inr (inl refl)) (inr (inr (inl refl)))

pub cover-numbered : (m : AnimatedTransform) (b : Bounds3f) (d : ℕ) → BoundsAnswer-Numbered (0 ∷ 5 ∷ 6 ∷ 7 ∷ 8 ∷ 10 ∷ []) (AnimatedTransform-cover m b d)
cover-numbered m b d = bounds-numbered (AnimatedTransform-cover m b d) (cover-nonzero m b d) (go (cover-number m b d))
  where
    go : {n : ℕ} → CoverNumber n → OneOf n (0 ∷ 5 ∷ 6 ∷ 7 ∷ 8 ∷ 10 ∷ [])
    go (inl e) = inr (inr (inl e))
    go (inr (inl e)) = inr (inr (inr (inl e)))
    go (inr (inr (inl e))) = inr (inr (inr (inr (inl e))))
    go (inr (inr (inr (inl e)))) = inl e
    go (inr (inr (inr (inr (inl e))))) = inr (inl e)
    go (inr (inr (inr (inr (inr e))))) = inr (inr (inr (inr (inr (inl e)))))
