-- What is answered of a box once its tests, the start transform, the end transform and the slices are joined is its cover before its zeros are +0:
-- `moved-stored`, `moved-slices`. The steps of the code: `none_passed`, where no box passes its tests, `start-covered`, `end-covered`.
use Prim.Native.Nat.{ℕ, ◌^◌, ◌≤◌}
use mathlib.Core.Path.{◌≡◌, refl, sym, ap, subst, ◌∙◌}
use mathlib.Core.Bool.{Bool, true, false, cond}
use mathlib.Core.List.{List, [], ◌∷◌}
use native.Mathlib.Omega.{arith}
use borrow.Author.Tests.{eqb-true}
use lib.Dec.{eqb}
use lib.ListN.{length}
use lib.Ieee.{Float}
use Rattle.interval.specs.float32.MinMax.{max_num}
use Rattle.motion_pad.specs.bounds3.declared.Bounds3f.{Bounds3f}
use Rattle.motion_pad.specs.bounds3.List.{Bounds3f-list, Bounds3f-of_list}
use Rattle.motion_pad.specs.transform.declared.BoundsAnswer.{BoundsAnswer}
use Rattle.motion_pad.specs.transform.declared.BoundsAnswer.TheVariants.{Bounds, Refused}
use Rattle.motion_pad.specs.transform.Answer.{BoundsAnswer-bounds}
use Rattle.motion_pad.specs.bounds_query.Query.{BoundsAnswer-union_bounds, max_depth, cover_refusal}
use Rattle.animated_transform.specs.declared.AnimatedTransform.{AnimatedTransform}
use Rattle.motion_point.specs.TransformPoint.{AnimatedTransform-constants}
use Rattle.motion_piece.specs.motion_cover.Cover.{AnimatedTransform-enclose_ends, union_slices, AnimatedTransform-enclose_motion}
use Rattle.motion_piece.proofs.motion_cover.Contains.{cover-depth, motion-stored, motion-slices}
use Rattle.motion_piece.proofs.motion_cover.Slices.{refused-first}
use Rattle.motion_piece.specs.means.Piece.{PaddedPose}
use Rattle.motion_piece.specs.means.Piece.{PaddedPose-enclose_bounds, PaddedPose-stored}
use Rattle.motion_piece.proofs.Piece.{stored-composition}
use Rattle.motion_pad.specs.Pad.{Pad-start}
use Rattle.box_front.specs.declared.Front.{Front}
use Rattle.box_front.specs.means.Front.{place_count, Boxes-answers, Bounds3f-tested, Front-of, Places-put, PaddedPose-front, PaddedPose-places}
use Rattle.motion_fronts.specs.means.Covered.{Covered}
use Rattle.motion_fronts.specs.means.Zeros.{AnimatedTransform-enclose_tested}
use Rattle.motion_fronts.proofs.Front.{joined, take-first, take_next}

-- ---- the tests
pub passed-depth : (boxes : List (List Float)) (d : ℕ) → ((Front-of (Boxes-answers (Bounds3f-tested d) boxes)).count ≡ 0 → ⊥) → d ≤ max_depth
unfolding Front-of
passed-depth [] d h = absurd (h refl)
passed-depth (b ∷ boxes) d h = go (eqb (cover_refusal (Bounds3f-of_list b) d) 0) (eqb-true (cover_refusal (Bounds3f-of_list b) d) 0) h
  where
    number : ℕ
    number = cover_refusal (Bounds3f-of_list b) d

    go : (t : Bool) → (t ≡ true → number ≡ 0)
        → ((Front-of (cond t (Bounds (Bounds3f-of_list b)) (Refused number) ∷ Boxes-answers (Bounds3f-tested d) boxes)).count ≡ 0 → ⊥)
        → d ≤ max_depth
    go true f k = cover-depth (Bounds3f-of_list b) d (f refl)
    go false f k = absurd (k (unfold Front-of in refl))

module _ (m : AnimatedTransform) (d : ℕ) where
  abbrev enclosed : Bounds3f → BoundsAnswer
  enclosed b = AnimatedTransform-enclose_tested m b d

  none-front : (boxes : List (List Float)) → (Front-of (Boxes-answers (Bounds3f-tested d) boxes)).count ≡ 0
      → Front-of (Boxes-answers (Bounds3f-tested d) boxes) ≡ Front-of (Boxes-answers enclosed boxes)
  unfolding Front-of AnimatedTransform-enclose_tested
  none-front [] h = refl
  none-front (b ∷ boxes) h = go (eqb (cover_refusal (Bounds3f-of_list b) d) 0) h
    where
      number : ℕ
      number = cover_refusal (Bounds3f-of_list b) d

      go : (t : Bool) → (Front-of (cond t (Bounds (Bounds3f-of_list b)) (Refused number) ∷ Boxes-answers (Bounds3f-tested d) boxes)).count ≡ 0
          → Front-of (cond t (Bounds (Bounds3f-of_list b)) (Refused number) ∷ Boxes-answers (Bounds3f-tested d) boxes)
          ≡ Front-of (cond t (AnimatedTransform-enclose_motion m (Bounds3f-of_list b) d) (Refused number) ∷ Boxes-answers enclosed boxes)
      go true k = absurd (unfold Front-of in omega (arith, k))
      go false k = unfold Front-of in refl

  pub none_passed : (boxes places : List (List Float)) {front : Front} → front ≡ Front-of (Boxes-answers (Bounds3f-tested d) boxes) → front.count ≡ 0
      → Covered enclosed boxes places places front
  none_passed boxes places {front} e z =
      let none : (Front-of (Boxes-answers (Bounds3f-tested d) boxes)).count ≡ 0 = ap (λ (x : Front). x.count) (sym e) ∙ z in
      record { reached = e ∙ none-front boxes none; places = λ h. nothing boxes (sym h ∙ z) }
    where
      nothing : (bs : List (List Float)) → length bs ≡ 0 → places ≡ Places-put (λ a _. Bounds3f-list (BoundsAnswer-bounds a)) (Boxes-answers enclosed bs) places
      nothing [] k = unfold Places-put in refl
      nothing (b ∷ bs) k = absurd (omega (arith, k))

-- ---- the move
module _ (m : AnimatedTransform) (d : ℕ) (b : Bounds3f) where
  abbrev start : BoundsAnswer
  start = PaddedPose-enclose_bounds (PaddedPose-stored (Pad-start m.actually_animated m.pad0 m.pad1) m.start_transform) b

  abbrev end : BoundsAnswer
  end = PaddedPose-enclose_bounds (PaddedPose-stored m.pad1 m.end_transform) b

  pub moved-stored : m.actually_animated ≡ false → joined true (Bounds3f-tested d b) start ≡ AnimatedTransform-enclose_tested m b d
  unfolding AnimatedTransform-enclose_tested
  moved-stored s =
      rw (motion-stored m b d s, stored-composition (max_num m.pad0 m.pad1) m.start_transform b, ← start-equal) (go (eqb (cover_refusal b d) 0))
    where
      start-equal : start ≡ PaddedPose-enclose_bounds (PaddedPose-stored (max_num m.pad0 m.pad1) m.start_transform) b
      start-equal = rw s

      go : (t : Bool) → joined true (cond t (Bounds b) (Refused (cover_refusal b d))) start ≡ cond t start (Refused (cover_refusal b d))
      go true = refl
      go false = refl

  pub moved-slices : m.actually_animated ≡ true
      → union_slices m (AnimatedTransform-constants m) b d (joined false (joined true (Bounds3f-tested d b) start) end) (2 ^ d)
      ≡ AnimatedTransform-enclose_tested m b d
  unfolding AnimatedTransform-enclose_tested AnimatedTransform-enclose_ends
  moved-slices s =
      rw (motion-slices m b d s, stored-composition m.pad0 m.start_transform b, stored-composition m.pad1 m.end_transform b, ← start-own)
      (go (eqb (cover_refusal b d) 0))
    where
      start-own : start ≡ PaddedPose-enclose_bounds (PaddedPose-stored m.pad0 m.start_transform) b
      start-own = rw s

      slices : BoundsAnswer → BoundsAnswer
      slices r = union_slices m (AnimatedTransform-constants m) b d r (2 ^ d)

      go : (t : Bool) → slices (joined false (joined true (cond t (Bounds b) (Refused (cover_refusal b d))) start) end)
          ≡ cond t (slices (BoundsAnswer-union_bounds start end)) (Refused (cover_refusal b d))
      go true = refl
      go false = unfold BoundsAnswer-union_bounds in refused-first m (AnimatedTransform-constants m) b d (cover_refusal b d) (2 ^ d)

-- ---- the steps of the code, each by the clauses of its call
module _ (m : AnimatedTransform) (d : ℕ) {boxes : List (List Float)} (room : length boxes ≤ place_count) where
  pub start-covered : {from to : Front} {old new : List (List Float)} {pose : PaddedPose} → from ≡ Front-of (Boxes-answers (Bounds3f-tested d) boxes)
      → pose ≡ PaddedPose-stored (Pad-start m.actually_animated m.pad0 m.pad1) m.start_transform
      → to ≡ PaddedPose-front pose boxes from → new ≡ PaddedPose-places true pose boxes from old
      → Covered (λ b. joined true (Bounds3f-tested d b) (start m d b)) boxes old new to
  start-covered {from} {to} {old} {new} {pose} j e t n =
      subst (λ (x : PaddedPose). Covered (λ b. joined true (Bounds3f-tested d b) (PaddedPose-enclose_bounds x b)) boxes old new to) e
      (take-first (Bounds3f-tested d) pose boxes room j t n)

  pub end-covered : {f : Bounds3f → BoundsAnswer} {from to : Front} {first old new : List (List Float)} {pose : PaddedPose} → Covered f boxes first old from
      → pose ≡ PaddedPose-stored m.pad1 m.end_transform
      → to ≡ PaddedPose-front pose boxes from → new ≡ PaddedPose-places false pose boxes from old
      → Covered (λ b. joined false (f b) (end m d b)) boxes first new to
  end-covered {f} {from} {to} {first} {old} {new} {pose} c e t n =
      subst (λ (x : PaddedPose). Covered (λ b. joined false (f b) (PaddedPose-enclose_bounds x b)) boxes first new to) e
      (take_next f pose boxes room c t n)
