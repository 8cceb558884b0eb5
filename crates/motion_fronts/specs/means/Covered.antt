-- What the code of a set leaves in the places: the answers of the boxes, `Places-answered`; and what it has worked out so far, `Covered`.
-- Document 02 knows no such thing: the promises of a set cite neither. Definitions only.
use Rattle.std.specs.Prelude.{◌-◌, ◌≡◌, cond, List, [], ◌++◌, map, eqb, ltb, length, replicate, Float}
use Rattle.motion_pad.specs.matrix4x4.Rows.{positive_zero}
use Rattle.motion_pad.specs.bounds3.declared.Bounds3f.{Bounds3f}
use Rattle.motion_pad.specs.bounds3.List.{Bounds3f-list}
use Rattle.motion_pad.specs.transform.declared.BoundsAnswer.{BoundsAnswer}
use Rattle.motion_pad.specs.transform.Answer.{BoundsAnswer-bounds}
use Rattle.box_front.specs.declared.Front.{Front}
use Rattle.box_front.specs.means.Front.{place_count, Boxes-answers, Front-of, Places-put}

-- The boxes that are asked: none where they are more than the places.
unfoldable pub Boxes-asked : List (List Float) → List (List Float)
Boxes-asked boxes = cond (ltb place_count (length boxes)) [] boxes

-- A place of its own for each box, in order; the unused ones are +0.
abbrev pub Places-of : List Bounds3f → List (List Float)
Places-of boxes = map Bounds3f-list boxes ++ replicate (place_count - length boxes) (replicate 6 positive_zero)

-- The boxes that are answered, where none is refused; else no box.
unfoldable pub Places-answered : List BoundsAnswer → List (List Float)
Places-answered answers = Places-of (cond (eqb (Front-of answers).count (length answers)) (map BoundsAnswer-bounds answers) [])

-- `answer` is what is answered of each box so far, and the front is that of all; where none is refused they stand in the places, which were `old` before.
pub record Covered (answer : Bounds3f → BoundsAnswer) (boxes old new : List (List Float)) (front : Front) : Type 0 where
  pub reached : front ≡ Front-of (Boxes-answers answer boxes)
  pub places : front.count ≡ length boxes → new ≡ Places-put (λ a _. Bounds3f-list (BoundsAnswer-bounds a)) (Boxes-answers answer boxes) old

-- Work that goes on from what is answered so far.
abbrev pub Continues : ((Bounds3f → BoundsAnswer) → Bounds3f → BoundsAnswer)
    → List (List Float) → List (List Float) → List (List Float) → Front → Front → Type 0
Continues then boxes old new from to =
    (answer : Bounds3f → BoundsAnswer) (first : List (List Float)) → Covered answer boxes first old from → Covered (then answer) boxes first new to
