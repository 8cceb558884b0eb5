-- No cover is refused with 0 (`cover-nonzero`), so that a cover whose number is 0 is a box (`cover-answered`). A number is refused only after the test that it
-- isn't 0, and a union keeps one of its parts' numbers.
use Prim.Native.Nat.{ℕ, zero, suc, ◌^◌}
use mathlib.Core.Path.{◌≡◌, refl}
use mathlib.Core.Bool.{Bool, true, false, cond}
use mathlib.Core.List.{List}
use native.Mathlib.Omega.{arith}
use lib.Dec.{eqb}
use borrow.Author.Tests.{eqb-false}
use lib.Ieee.{Float}
use Rattle.stored_box.specs.float32.MinMax.{max_num}
use Rattle.stored_box.specs.bounds3.declared.Bounds3f.{Bounds3f}
use Rattle.stored_box.specs.transform.declared.Transform.{Transform}
use Rattle.stored_box.specs.transform.declared.BoundsAnswer.{BoundsAnswer}
use Rattle.stored_box.specs.transform.declared.BoundsAnswer.TheVariants.{Bounds, Refused}
use Rattle.stored_box.specs.transform.Answer.{OneOf, BoundsAnswer-refusal, BoundsAnswer-bounds}
use Rattle.stored_box.specs.bounds_query.Query.{BoundsAnswer-union_bounds, cover_refusal}
use Rattle.stored_box.specs.bounds_query.Zeros.{BoundsAnswer-positive_zeros}
use Rattle.stored_box.specs.interval.Judged.{Judged}
use Rattle.stored_box.specs.unit_interval.Unit.{slice}
use Rattle.stored_box.specs.pose_steps.declared.PoseConstants.{PoseConstants}
use Rattle.stored_box.specs.pose_steps.Judged.{JudgedVector}
use Rattle.stored_box.specs.pose_steps.Enclose.{Pose-enclose_point, Bounds3f-intervals, IntervalVector-bounds}
use Rattle.stored_box.specs.EnclosePoints.{Transform-enclose_points}
use Rattle.motion_point.specs.animated_transform.declared.AnimatedTransform.{AnimatedTransform}
use Rattle.motion_point.specs.TransformPoint.{AnimatedTransform-constants}
use Rattle.motion_pad.specs.Pad.{Pad-enclose, Pad-stored}
use Rattle.motion_pad.specs.Grow.{BoundsAnswer-grow}
use Rattle.motion_pad.proofs.Box.{grow-cases}
use Rattle.motion_cover.specs.Cover.{BoundsAnswer-from_enclosure, Transform-enclose_bounds, Transform-enclose_padded, AnimatedTransform-enclose_bounds}
use Rattle.motion_cover.specs.Cover.{AnimatedTransform-enclose_ends, union_slices, AnimatedTransform-enclose_motion, AnimatedTransform-cover}
use Rattle.motion_cover.specs.Answer.{BoundsAnswer-Numbered}

abbrev pub BoundsAnswer-NonZero : BoundsAnswer → Type 0
BoundsAnswer-NonZero (Bounds b) = Unit {0}
BoundsAnswer-NonZero (Refused n) = n ≡ 0 → ⊥

pub nonzero-box : (r : BoundsAnswer) → BoundsAnswer-NonZero r → BoundsAnswer-refusal r ≡ 0 → r ≡ Bounds (BoundsAnswer-bounds r)
nonzero-box (Bounds b) h e = refl
nonzero-box (Refused n) h e = absurd (h e)

pub bounds-numbered : {numbers : List ℕ} (a : BoundsAnswer) → BoundsAnswer-NonZero a → OneOf (BoundsAnswer-refusal a) numbers → BoundsAnswer-Numbered numbers a
bounds-numbered a h k = record { number = k; none = nonzero-box a h }

-- A number that was tested.
pub tested-nonzero : (n : ℕ) (r : BoundsAnswer) → BoundsAnswer-NonZero r → BoundsAnswer-NonZero (cond (eqb n 0) r (Refused n))
tested-nonzero n r p = go (eqb n 0) (eqb-false n 0)
  where
    go : (b : Bool) → (b ≡ false → n ≡ 0 → ⊥) → BoundsAnswer-NonZero (cond b r (Refused n))
    go true f = p
    go false f = f refl

pub union-nonzero : (r s : BoundsAnswer) → BoundsAnswer-NonZero r → BoundsAnswer-NonZero s → BoundsAnswer-NonZero (BoundsAnswer-union_bounds r s)
unfolding BoundsAnswer-union_bounds
union-nonzero (Bounds a) (Bounds b) h k = tt
union-nonzero (Bounds a) (Refused n) h k = k
union-nonzero (Refused n) s h k = h

pub zeros-nonzero : (r : BoundsAnswer) → BoundsAnswer-NonZero r → BoundsAnswer-NonZero (BoundsAnswer-positive_zeros r)
unfolding BoundsAnswer-positive_zeros
zeros-nonzero (Bounds b) h = tt
zeros-nonzero (Refused n) h = h

enclosure-nonzero : (j : JudgedVector) → BoundsAnswer-NonZero (BoundsAnswer-from_enclosure j)
unfolding BoundsAnswer-from_enclosure
enclosure-nonzero j = tested-nonzero j.refusal (Bounds (IntervalVector-bounds j.vector)) tt

pub grow-nonzero : (pad : Judged) (r : BoundsAnswer) → BoundsAnswer-NonZero r → BoundsAnswer-NonZero (BoundsAnswer-grow pad r)
grow-nonzero pad r h = grow-cases BoundsAnswer-NonZero pad r h (λ b. tt) (λ e. absurd (omega (arith, e))) (λ k. k)

stored-nonzero : (pad : Float) (t : Transform) (b : Bounds3f) → BoundsAnswer-NonZero (Transform-enclose_padded pad t b)
unfolding Transform-enclose_padded Transform-enclose_bounds
stored-nonzero pad t b = grow-nonzero (Pad-stored pad) _ (enclosure-nonzero (Transform-enclose_points t b))

slices-nonzero : (m : AnimatedTransform) (a : PoseConstants) (b : Bounds3f) (d : ℕ) (r : BoundsAnswer) → BoundsAnswer-NonZero r
    → (k : ℕ) → BoundsAnswer-NonZero (union_slices m a b d r k)
unfolding union_slices AnimatedTransform-enclose_bounds
slices-nonzero m a b d r h zero = h
slices-nonzero m a b d r h (suc k) =
    union-nonzero (union_slices m a b d r k) _ (slices-nonzero m a b d r h k)
    (grow-nonzero (Pad-enclose m.pad0 m.pad1 (slice d k)) _ (enclosure-nonzero (Pose-enclose_point a m.s0 m.s1 (slice d k) (Bounds3f-intervals b))))

motion-nonzero : (m : AnimatedTransform) (b : Bounds3f) (d : ℕ) → BoundsAnswer-NonZero (AnimatedTransform-enclose_motion m b d)
unfolding AnimatedTransform-enclose_motion AnimatedTransform-enclose_ends
motion-nonzero m b d = go m.actually_animated
  where
    slices : BoundsAnswer
    slices = union_slices m (AnimatedTransform-constants m) b d (AnimatedTransform-enclose_ends m b) (2 ^ d)

    go : (c : Bool) → BoundsAnswer-NonZero (cond c slices (Transform-enclose_padded (max_num m.pad0 m.pad1) m.start_transform b))
    go true =
        slices-nonzero m (AnimatedTransform-constants m) b d _
        (union-nonzero _ _ (stored-nonzero m.pad0 m.start_transform b) (stored-nonzero m.pad1 m.end_transform b)) (2 ^ d)
    go false = stored-nonzero (max_num m.pad0 m.pad1) m.start_transform b

pub cover-nonzero : (m : AnimatedTransform) (b : Bounds3f) (d : ℕ) → BoundsAnswer-NonZero (AnimatedTransform-cover m b d)
unfolding AnimatedTransform-cover
cover-nonzero m b d = tested-nonzero (cover_refusal b d) _ (zeros-nonzero (AnimatedTransform-enclose_motion m b d) (motion-nonzero m b d))

pub cover-answered : (m : AnimatedTransform) (b : Bounds3f) (d : ℕ) → BoundsAnswer-refusal (AnimatedTransform-cover m b d) ≡ 0
    → AnimatedTransform-cover m b d ≡ Bounds (BoundsAnswer-bounds (AnimatedTransform-cover m b d))
cover-answered m b d = nonzero-box (AnimatedTransform-cover m b d) (cover-nonzero m b d)
