-- What poses make of the boxes in front and of the rows' names, one after another: `Walks`. What the code does: no promise cites it.
use Rattle.std.specs.Prelude.{◌≡◌, Bool, List, [], ◌∷◌, map, length, Float}
use Rattle.transform.specs.bounds3.declared.Bounds3f.{Bounds3f}
use Rattle.transform.specs.bounds3.List.{Bounds3f-of_list}
use Rattle.transform.specs.declared.BoundsAnswer.{BoundsAnswer}
use Rattle.transform.specs.declared.BoundsAnswer.TheVariants.{Bounds, Refused}
use Rattle.transform.specs.Answer.{BoundsAnswer-bounds}
use Rattle.motion_piece.specs.means.Piece.{PaddedPose}
use Rattle.motion_piece.specs.means.Piece.{PaddedPose-enclose_bounds}
use Rattle.box_front.specs.declared.Front.{Front}
use Rattle.box_front.specs.means.Front.{Boxes-answers, Front-of}
use Rattle.reach_rows.specs.Named.{named_rows}

-- The second answer, unless the first is refused.
abbrev pub BoundsAnswer-then : BoundsAnswer → BoundsAnswer → BoundsAnswer
BoundsAnswer-then (Bounds x) s = s
BoundsAnswer-then (Refused n) s = Refused n

-- The answer of a box after poses: that of the last, or the first refusal.
unfoldable pub Poses-answer : (Bounds3f → BoundsAnswer) → List PaddedPose → Bounds3f → BoundsAnswer
Poses-answer f [] = f
Poses-answer f (p ∷ poses) = Poses-answer (λ b. BoundsAnswer-then (f b) (PaddedPose-enclose_bounds p b)) poses

-- The boxes that a pose moves the boxes to.
abbrev pub PaddedPose-moved : PaddedPose → List (List Float) → List Bounds3f
PaddedPose-moved p boxes = map (λ b. BoundsAnswer-bounds (PaddedPose-enclose_bounds p (Bounds3f-of_list b))) boxes

-- The names after poses.
unfoldable pub Poses-names : List (List Float) → List (List Float) → List PaddedPose → List Bool → List Bool
Poses-names boxes rows [] names = names
Poses-names boxes rows (p ∷ poses) names = Poses-names boxes rows poses (named_rows (PaddedPose-moved p boxes) (map Bounds3f-of_list rows) names)

-- Poses are taken over the boxes in front: the front is that of the answers after them, and where none is refused the rows that they meet are named.
pub record Walks (boxes rows : List (List Float)) (poses : List PaddedPose) (from to : Front) (old new : List Bool) : Type 0 where
  pub fronts : (f : Bounds3f → BoundsAnswer) → from ≡ Front-of (Boxes-answers f boxes) → to ≡ Front-of (Boxes-answers (Poses-answer f poses) boxes)
  pub names : (f : Bounds3f → BoundsAnswer) → from ≡ Front-of (Boxes-answers f boxes) → to.count ≡ length boxes → new ≡ Poses-names boxes rows poses old
