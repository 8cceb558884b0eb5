-- The zeros of the boxes in their places made +0 one by one, as a loop does it: `zeros-first`, `zeros-next`. What stands in the places is then the answers with
-- their zeros +0, and the front is as it was (`zeros-covered`); where the motion was enclosed, these answers are the covers (`tested-zeros`).
use Prim.Native.Nat.{ℕ, suc, ◌+◌, ◌<◌}
use mathlib.Core.Path.{◌≡◌, refl, ap, ◌∙◌}
use mathlib.Core.Bool.{Bool, true, false, cond}
use mathlib.Core.List.{List, [], ◌∷◌}
use native.Mathlib.Omega.{arith}
use lib.Dec.{eqb}
use lib.ListN.{length, get_or, take, set}
use lib.Ieee.{Float, of_bits, add}
use Rattle.motion_pad.specs.bounds3.declared.Bounds3f.{Bounds3f}
use Rattle.motion_pad.specs.bounds3.List.{Bounds3f-of_list}
use Rattle.motion_pad.specs.transform.declared.BoundsAnswer.{BoundsAnswer}
use Rattle.motion_pad.specs.transform.declared.BoundsAnswer.TheVariants.{Bounds, Refused}
use Rattle.motion_pad.specs.transform.Answer.{BoundsAnswer-bounds}
use Rattle.motion_pad.specs.bounds_query.Query.{cover_refusal}
use Rattle.motion_pad.specs.bounds_query.Zeros.{Bounds3f-positive_zeros, BoundsAnswer-positive_zeros}
use Rattle.animated_transform.specs.declared.AnimatedTransform.{AnimatedTransform}
use Rattle.motion_piece.specs.motion_cover.Cover.{AnimatedTransform-enclose_motion, AnimatedTransform-cover}
use Rattle.box_front.specs.declared.Front.{Front}
use Rattle.box_front.specs.means.Front.{Boxes-answers, Front-of, Places-put}
use Rattle.box_front.proofs.Put.{put_next}
use Rattle.motion_fronts.specs.means.Covered.{Covered}
use Rattle.motion_fronts.specs.means.Zeros.{AnimatedTransform-enclose_tested, Place-positive_zeros, Places-positive_zeros}
use Rattle.motion_fronts.proofs.Front.{next, held}

-- ---- one place after the other
pub zeros-first : (boxes places : List (List Float)) → places ≡ Places-positive_zeros (take 0 boxes) places
unfolding Places-put
zeros-first boxes places = refl

pub zeros-next : (boxes old : List (List Float)) {new then : List (List Float)} {k : ℕ} → new ≡ Places-positive_zeros (take k boxes) old → k < length boxes
    → then ≡ set new k (Place-positive_zeros (get_or new k [])) → then ≡ Places-positive_zeros (take (k + 1) boxes) old
zeros-next boxes old {new} {then} {k} e l n =
    let one : k + 1 ≡ suc k = omega arith in
    rw (one, n, e) (put_next (λ (_ place : List Float). Place-positive_zeros place) boxes [] k old l)

-- ---- the answers
pub tested-zeros : (m : AnimatedTransform) (b : Bounds3f) (d : ℕ)
    → BoundsAnswer-positive_zeros (AnimatedTransform-enclose_tested m b d) ≡ AnimatedTransform-cover m b d
unfolding AnimatedTransform-enclose_tested AnimatedTransform-cover
tested-zeros m b d = go (eqb (cover_refusal b d) 0)
  where
    motion : BoundsAnswer
    motion = AnimatedTransform-enclose_motion m b d

    go : (t : Bool) → BoundsAnswer-positive_zeros (cond t motion (Refused (cover_refusal b d)))
        ≡ cond t (BoundsAnswer-positive_zeros motion) (Refused (cover_refusal b d))
    go true = refl
    go false = unfold BoundsAnswer-positive_zeros in refl

-- A refused box stands as +0.
zeros-bounds : (x : BoundsAnswer) → Bounds3f-positive_zeros (BoundsAnswer-bounds x) ≡ BoundsAnswer-bounds (BoundsAnswer-positive_zeros x)
unfolding BoundsAnswer-positive_zeros
zeros-bounds (Bounds x) = refl
zeros-bounds (Refused n) = unfold Bounds3f-positive_zeros of_bits add in refl

module _ (f : Bounds3f → BoundsAnswer) where
  abbrev zeros : Bounds3f → BoundsAnswer
  zeros b = BoundsAnswer-positive_zeros (f b)

  zeros-front : (boxes : List (List Float)) → Front-of (Boxes-answers f boxes) ≡ Front-of (Boxes-answers zeros boxes)
  unfolding Front-of
  zeros-front [] = refl
  zeros-front (b ∷ boxes) = go (f (Bounds3f-of_list b)) (zeros-front boxes)
    where
      go : (x : BoundsAnswer) → Front-of (Boxes-answers f boxes) ≡ Front-of (Boxes-answers zeros boxes)
          → Front-of (x ∷ Boxes-answers f boxes) ≡ Front-of (BoundsAnswer-positive_zeros x ∷ Boxes-answers zeros boxes)
      go (Bounds x) e = unfold Front-of BoundsAnswer-positive_zeros in ap next e
      go (Refused n) e = unfold Front-of BoundsAnswer-positive_zeros in refl

  zeros-held : (boxes old : List (List Float)) → Places-positive_zeros boxes (held f boxes old) ≡ held zeros boxes old
  unfolding Places-put
  zeros-held [] old = refl
  zeros-held (b ∷ boxes) [] = refl
  zeros-held (b ∷ boxes) (p ∷ old) = rw (zeros-bounds (f (Bounds3f-of_list b)), zeros-held boxes old)

  pub zeros-covered : {boxes old new then : List (List Float)} {front : Front} → Covered f boxes old new front → then ≡ Places-positive_zeros boxes new
      → Covered zeros boxes old then front
  zeros-covered {boxes} {old} c n = record {
    reached = c.reached ∙ zeros-front boxes;
    places = λ h. n ∙ ap (Places-positive_zeros boxes) (c.places h) ∙ zeros-held boxes old;
  }
