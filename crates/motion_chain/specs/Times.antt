-- A list of times in one query of a chain: how it is judged, what it answers, and what it leaves in the lent answers. Definitions only.
-- Quotations are of document 02, "Poses in a chain", unless another document is named.
-- 6 is judged of the point and of every time before 13; then the times are worked in rising order, and the first refusal stands.
-- An empty list does not fall: for a finite point and no places it answers no points.
use Rattle.std.specs.Prelude.{ℕ, ◌*◌, Bool, true, not, ◌&&◌, ◌||◌, cond, List, [], ◌∷◌, ◌++◌, eqb, length, Float, Ok, Err}
use Rattle.std.specs.Float.Ieee.{is_nan, le}
use Rattle.bounds_answers.specs.bounds3.declared.Point3f.{Point3f}
use Rattle.bounds_answers.specs.bounds3.Finite.{Point3f-is_finite}
use Rattle.bounds_answers.specs.bounds3.List.{Point3f-list}
use Rattle.bounds_answers.specs.transform.Answer.{PointAnswer}
use Rattle.bounds_answers.specs.animated_transform.declared.AnimatedTransform.{AnimatedTransform}
use Rattle.bounds_answers.specs.motion_point.TransformPoint.{AnimatedTransform-transform_point}
use Rattle.motion_chain.specs.Chain.{every, Chain, Chain-transform_point}

-- ---- judging

-- No time of the list is NaN.
unfoldable pub times_are_numbers : List Float → Bool
times_are_numbers times = every (λ t. not (is_nan t)) times

-- "a list of times that never falls": equal times and the two zeros, in either order, are no fall
unfoldable pub never_falls : List Float → Bool
never_falls [] = true
never_falls (t ∷ []) = true
never_falls (t ∷ u ∷ times) = le t u && never_falls (u ∷ times)

-- "three places a time"
abbrev pub places_per_time : ℕ
places_per_time = 3

-- document 01's 6, where "the time is NaN, or a coordinate is not finite", of every time; "a falling list,
-- or answers that aren't exactly three places per time, is 13, judged after 6". 0 is none.
unfoldable pub list_refusal : List Float → Point3f → ℕ → ℕ
list_refusal times p places =
    cond (not (times_are_numbers times) || not (Point3f-is_finite p)) 6
    (cond (not (never_falls times) || not (eqb places (places_per_time * length times))) 13 0)

-- ---- the work

pub data PointsAnswer : Type 0 where
  moved : List Point3f → PointsAnswer
  refused : ℕ → PointsAnswer

-- document 01's number and values of each case: 0 where nothing is refused, and no points where something is
abbrev pub PointsAnswer-refusal : PointsAnswer → ℕ
PointsAnswer-refusal (moved qs) = 0
PointsAnswer-refusal (refused n) = n

abbrev pub PointsAnswer-points : PointsAnswer → List Point3f
PointsAnswer-points (moved qs) = qs
PointsAnswer-points (refused n) = []

-- What came of a time and of the times after it: the first refusal stands.
unfoldable pub PointsAnswer-cons : PointAnswer → PointsAnswer → PointsAnswer
PointsAnswer-cons (Ok q) (moved qs) = moved (q ∷ qs)
PointsAnswer-cons (Ok q) (refused n) = refused n
PointsAnswer-cons (Err n) r = refused n

-- What came of a part of the list and of the part after it: the first refusal stands.
unfoldable pub PointsAnswer-append : PointsAnswer → PointsAnswer → PointsAnswer
PointsAnswer-append (moved ps) (moved qs) = moved (ps ++ qs)
PointsAnswer-append (moved ps) (refused n) = refused n
PointsAnswer-append (refused n) r = refused n

-- A query at one time, asked at each time of the list, in rising order.
unfoldable pub points_at : (Float → PointAnswer) → List Float → PointsAnswer
points_at query [] = moved []
points_at query (t ∷ times) = PointsAnswer-cons (query t) (points_at query times)

-- a stretch of times, "handed to its own move"
unfoldable pub AnimatedTransform-transform_points : AnimatedTransform → List Float → Point3f → PointsAnswer
AnimatedTransform-transform_points m times p = points_at (λ t. AnimatedTransform-transform_point m t p) times

-- "A query may bring a list of times"; places is how many places the lent answers have
unfoldable pub Chain-transform_points : Chain → List Float → Point3f → ℕ → PointsAnswer
Chain-transform_points c times p places =
    let n = list_refusal times p places in
    cond (eqb n 0) (points_at (λ t. Chain-transform_point c t p) times) (refused n)

-- ---- the lent answers

-- The points' floats, "three places a time".
unfoldable pub Points-list : List Point3f → List Float
Points-list [] = []
Points-list (q ∷ qs) = Point3f-list q ++ Points-list qs

-- "any refusal keeps the lent answers as they came": `old` is what stood in them
unfoldable pub PointsAnswer-left : PointsAnswer → List Float → List Float
PointsAnswer-left (moved qs) old = Points-list qs
PointsAnswer-left (refused n) old = old

abbrev pub Chain-points_left : Chain → List Float → Point3f → List Float → List Float
Chain-points_left c times p old = PointsAnswer-left (Chain-transform_points c times p (length old)) old
