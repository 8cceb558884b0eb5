-- A cover before its zeros are +0, `AnimatedTransform-enclose_tested`; and the zeros of boxes in their places made +0, `Places-positive_zeros`. Definitions only.
use Rattle.std.specs.Prelude.{ℕ, cond, List, eqb, Float}
use Rattle.motion_pad.specs.bounds3.declared.Bounds3f.{Bounds3f}
use Rattle.motion_pad.specs.bounds3.List.{Bounds3f-list, Bounds3f-of_list}
use Rattle.motion_pad.specs.transform.declared.BoundsAnswer.{BoundsAnswer}
use Rattle.motion_pad.specs.transform.declared.BoundsAnswer.TheVariants.{Refused}
use Rattle.motion_pad.specs.bounds_query.Query.{cover_refusal}
use Rattle.motion_pad.specs.bounds_query.Zeros.{Bounds3f-positive_zeros}
use Rattle.animated_transform.specs.declared.AnimatedTransform.{AnimatedTransform}
use Rattle.motion_piece.specs.motion_cover.Cover.{AnimatedTransform-enclose_motion}
use Rattle.box_front.specs.means.Front.{Places-put}

-- The motion enclosed, behind the tests of the box and the depth.
unfoldable pub AnimatedTransform-enclose_tested : AnimatedTransform → Bounds3f → ℕ → BoundsAnswer
AnimatedTransform-enclose_tested m b d = let n = cover_refusal b d in cond (eqb n 0) (AnimatedTransform-enclose_motion m b d) (Refused n)

abbrev pub Place-positive_zeros : List Float → List Float
Place-positive_zeros place = Bounds3f-list (Bounds3f-positive_zeros (Bounds3f-of_list place))

-- A place for each box, in order; those behind them are as they were.
abbrev pub Places-positive_zeros : List (List Float) → List (List Float) → List (List Float)
Places-positive_zeros boxes places = Places-put (λ _ place. Place-positive_zeros place) boxes places
