-- A set of boxes asked at one depth: each box's cover and their union. Definitions only. Quotations are of document 02, "A boom of many boxes".
use Rattle.std.specs.Prelude.{ℕ, cond, List, [], ◌∷◌, map, ltb, length}
use Rattle.motion_chain.specs.bounds3.declared.Bounds3f.{Bounds3f}
use Rattle.motion_chain.specs.bounds3.Bounds3f.{Bounds3f-from_point}
use Rattle.motion_chain.specs.transform.declared.BoundsAnswer.{BoundsAnswer}
use Rattle.motion_chain.specs.transform.declared.BoundsAnswer.TheVariants.{Bounds, Refused}
use Rattle.motion_chain.specs.transform.Answer.{origin, BoundsAnswer-bounds}
use Rattle.motion_chain.specs.bounds_answers.UnionAll.{BoundsAnswer-union_all}
use Rattle.motion_chain.specs.animated_transform.declared.AnimatedTransform.{AnimatedTransform}
use Rattle.motion_chain.specs.motion_cover.Cover.{AnimatedTransform-cover}
use Rattle.motion_chain.specs.Chain.{Chain, Chain-cover}

-- "1 to 16 boxes"
abbrev pub max_boxes : ℕ
max_boxes = 16

-- "one cover for each .. and their union"
pub data SetAnswer : Type 0 where
  covered : List Bounds3f → Bounds3f → SetAnswer
  refused : ℕ → SetAnswer

-- the number and the values of each case: 0 where nothing is refused, and no cover where something is
abbrev pub SetAnswer-refusal : SetAnswer → ℕ
SetAnswer-refusal (covered covers u) = 0
SetAnswer-refusal (refused n) = n

abbrev pub SetAnswer-covers : SetAnswer → List Bounds3f
SetAnswer-covers (covered covers u) = covers
SetAnswer-covers (refused n) = []

abbrev pub SetAnswer-union : SetAnswer → Bounds3f
SetAnswer-union (covered covers u) = u
SetAnswer-union (refused n) = Bounds3f-from_point origin

-- What came of the boxes in order, and of the union of that.
abbrev pub SetAnswer-joined : List BoundsAnswer → BoundsAnswer → SetAnswer
SetAnswer-joined answers (Bounds u) = covered (map BoundsAnswer-bounds answers) u
SetAnswer-joined answers (Refused n) = refused n

-- "within the set the first refused box in order gives the number": of a union in order the first refusal stands. "An empty set .. is 14".
unfoldable pub SetAnswer-of : List BoundsAnswer → SetAnswer
SetAnswer-of [] = refused 14
SetAnswer-of (a ∷ answers) = SetAnswer-joined (a ∷ answers) (BoundsAnswer-union_all a answers)

-- "one cover for each, equal to that box's own"; "more than 16 boxes is 14, judged before 6"
unfoldable pub Boxes-covers : (Bounds3f → BoundsAnswer) → List Bounds3f → SetAnswer
Boxes-covers cover boxes = cond (ltb max_boxes (length boxes)) (refused 14) (SetAnswer-of (map cover boxes))

-- "A query may bring 1 to 16 boxes and one depth", of a chain and of a move by itself
abbrev pub Chain-covers : Chain → List Bounds3f → ℕ → SetAnswer
Chain-covers c boxes depth = Boxes-covers (λ b. Chain-cover c b depth) boxes

abbrev pub AnimatedTransform-covers : AnimatedTransform → List Bounds3f → ℕ → SetAnswer
AnimatedTransform-covers m boxes depth = Boxes-covers (λ b. AnimatedTransform-cover m b depth) boxes
