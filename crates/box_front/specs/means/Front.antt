-- What the code of a set keeps while it works: the boxes at the front that are not refused so far, and a place for each.
-- Document 02 knows no such thing, and no promise cites it. `PaddedPose-front` and `PaddedPose-places` say what one pose makes of them. Definitions only.
use Rattle.std.specs.Prelude.{ℕ, suc, Bool, cond, List, [], ◌∷◌, map, eqb, ltb, length, get_or, take, Float}
use Rattle.transform.specs.bounds3.declared.Bounds3f.{Bounds3f}
use Rattle.transform.specs.bounds3.List.{Bounds3f-of_list}
use Rattle.transform.specs.declared.BoundsAnswer.{BoundsAnswer}
use Rattle.transform.specs.declared.BoundsAnswer.TheVariants.{Bounds, Refused}
use Rattle.bounds_query.specs.Query.{cover_refusal, BoundsAnswer-union_bounds}
use Rattle.lent_arrays.specs.Arrays.{BoundsAnswer-left}
use Rattle.motion_piece.specs.means.Piece.{PaddedPose}
use Rattle.motion_piece.specs.means.Piece.{PaddedPose-enclose_bounds}
use Rattle.box_front.specs.declared.Front.{Front}

-- The places that are lent, one for a box.
abbrev pub place_count : ℕ
place_count = 16

-- The box at a place of the set.
abbrev pub box_at : List (List Float) → ℕ → Bounds3f
box_at boxes i = Bounds3f-of_list (get_or boxes i [])

-- ---- the front
-- What is answered of each box, in order.
abbrev pub Boxes-answers : (Bounds3f → BoundsAnswer) → List (List Float) → List BoundsAnswer
Boxes-answers answer boxes = map (λ b. answer (Bounds3f-of_list b)) boxes

-- What the tests of a box leave of it: the box, or 6, 7 or 8.
abbrev pub Bounds3f-tested : ℕ → Bounds3f → BoundsAnswer
Bounds3f-tested depth b = cond (eqb (cover_refusal b depth) 0) (Bounds b) (Refused (cover_refusal b depth))

-- How many answers stand before the first refusal, and its number, 0 where there is none.
unfoldable pub Front-of : List BoundsAnswer → Front
Front-of [] = record { count = 0; refusal = 0 }
Front-of (Bounds b ∷ answers) = record { count = suc (Front-of answers).count; refusal = (Front-of answers).refusal }
Front-of (Refused n ∷ answers) = record { count = 0; refusal = n }

-- The boxes in front: none where they would be more than the boxes, or than the places.
unfoldable pub Front-boxes : Front → List (List Float) → List (List Float)
Front-boxes front boxes = cond (ltb (length boxes) front.count) [] (cond (ltb place_count front.count) [] (take front.count boxes))

-- The front once the boxes in it are answered anew: as it was where none is refused.
unfoldable pub Front-after : Front → List BoundsAnswer → Front
Front-after front answers = cond (eqb (Front-of answers).count (length answers)) front (Front-of answers)

-- ---- the places
-- What an answer leaves in a place: by itself where it is the first, else joined to what stands there. A refusal leaves it as it was.
abbrev pub BoundsAnswer-put : Bool → BoundsAnswer → List Float → List Float
BoundsAnswer-put first a old = BoundsAnswer-left (cond first a (BoundsAnswer-union_bounds (Bounds (Bounds3f-of_list old)) a)) old

-- Each item put into its place, in order; the places behind the items are as they were.
unfoldable pub Places-put : {A : Type 0} → (A → List Float → List Float) → List A → List (List Float) → List (List Float)
Places-put put [] places = places
Places-put put (x ∷ items) [] = []
Places-put put (x ∷ items) (p ∷ places) = put x p ∷ Places-put put items places

-- ---- one pose over the boxes in front
abbrev pub PaddedPose-answers : PaddedPose → List (List Float) → Front → List BoundsAnswer
PaddedPose-answers pose boxes front = Boxes-answers (PaddedPose-enclose_bounds pose) (Front-boxes front boxes)

abbrev pub PaddedPose-front : PaddedPose → List (List Float) → Front → Front
PaddedPose-front pose boxes front = Front-after front (PaddedPose-answers pose boxes front)

-- The answers before the first refusal are put.
abbrev pub PaddedPose-places : Bool → PaddedPose → List (List Float) → Front → List (List Float) → List (List Float)
PaddedPose-places first pose boxes front places =
    let answers = PaddedPose-answers pose boxes front in
    Places-put (BoundsAnswer-put first) (take (Front-of answers).count answers) places
