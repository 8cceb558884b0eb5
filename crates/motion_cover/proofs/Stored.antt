-- The start box and the end box of a cover, before they grow, are `transform_bounds` of the stored transforms: the same box, a zero's sign aside, or the same
-- number (`stored_same`), and so equal with their zeros +0 (`stored-zeros`). They are stored_box's laws, of answers.
use Prim.Native.Nat.{ℕ}
use mathlib.Core.Path.{◌≡◌, refl}
use mathlib.Core.Bool.{Bool, true, false, cond}
use lib.Dec.{eqb}
use borrow.Author.Tests.{eqb-true, eqb-false}
use Rattle.stored_box.specs.bounds3.declared.Bounds3f.{Bounds3f}
use Rattle.stored_box.specs.transform.declared.Transform.{Transform}
use Rattle.stored_box.specs.transform.declared.BoundsAnswer.{BoundsAnswer}
use Rattle.stored_box.specs.transform.declared.BoundsAnswer.TheVariants.{Bounds, Refused}
use Rattle.stored_box.specs.transform.Answer.{BoundsAnswer-refusal}
use Rattle.stored_box.specs.transform.TransformBounds.{Transform-transform_bounds}
use Rattle.stored_box.specs.bounds_query.Query.{Bounds3f-refusal}
use Rattle.stored_box.specs.bounds_query.Same.{BoundsAnswer-Same, same-box, same-refusal}
use Rattle.stored_box.specs.bounds_query.Zeros.{BoundsAnswer-positive_zeros}
use Rattle.stored_box.specs.pose_steps.Judged.{JudgedVector}
use Rattle.stored_box.specs.pose_steps.Enclose.{IntervalVector-bounds}
use Rattle.stored_box.proofs.StoredBox.{stored-box-same, stored-box-accepted, stored-box-refusal}
use Rattle.stored_box.specs.EnclosePoints.{Transform-enclose_points}
use Rattle.motion_point.specs.animated_transform.Built.{StoredPose}
use Rattle.motion_pad.proofs.Zeros.{answers-zeros}
use Rattle.motion_cover.specs.Cover.{BoundsAnswer-from_enclosure, Transform-enclose_bounds}

refused-same : (n : ℕ) (r : BoundsAnswer) → (n ≡ 0 → ⊥) → n ≡ BoundsAnswer-refusal r → BoundsAnswer-Same (Refused n) r
refused-same n (Bounds b) h e = absurd (h e)
refused-same n (Refused k) h e = rw e (same-refusal k)

module _ (t : Transform) (s : StoredPose t) (b : Bounds3f) (accepted : Bounds3f-refusal b ≡ 0) where
  pub stored_same : BoundsAnswer-Same (Transform-enclose_bounds t b) (Transform-transform_bounds t b)
  unfolding Transform-enclose_bounds BoundsAnswer-from_enclosure
  stored_same = go (eqb j.refusal 0) (eqb-true j.refusal 0) (eqb-false j.refusal 0)
    where
      j : JudgedVector
      j = Transform-enclose_points t b

      go : (c : Bool) → (c ≡ true → j.refusal ≡ 0) → (c ≡ false → j.refusal ≡ 0 → ⊥)
          → BoundsAnswer-Same (cond c (Bounds (IntervalVector-bounds j.vector)) (Refused j.refusal)) (Transform-transform_bounds t b)
      go true f g =
          let (c, e) = stored-box-accepted t b s.affine s.matrix accepted (f refl) in
          let (i, o) = stored-box-same t b s.affine s.matrix accepted c (f refl) e in
          rw e (same-box i o)
      go false f g = refused-same j.refusal (Transform-transform_bounds t b) (g refl) (stored-box-refusal t b s.affine s.matrix accepted)

  pub stored-zeros : BoundsAnswer-positive_zeros (Transform-enclose_bounds t b) ≡ BoundsAnswer-positive_zeros (Transform-transform_bounds t b)
  stored-zeros = answers-zeros stored_same
