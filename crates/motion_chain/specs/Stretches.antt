-- The stretches of a list of times, each handed to its own move as a part of the list: `Chain-stretches`; and what holds of them,
-- `Stretches` and `StretchPoints`, the statements of `stretches` and `stretch-points`. Quotations are of document 02, "Poses in a chain".
use Rattle.std.specs.Prelude.{ℕ, suc, ◌*◌, ◌≡◌, cond, T, length, take, drop, Float}
use mathlib.Core.List.{List, [], ◌∷◌, flatten}
use Rattle.std.specs.Float.Ieee.{le}
use Rattle.bounds_answers.specs.bounds3.declared.Point3f.{Point3f}
use Rattle.bounds_answers.specs.animated_transform.declared.AnimatedTransform.{AnimatedTransform}
use Rattle.motion_chain.specs.Chain.{Chain, Chain-moves}
use Rattle.motion_chain.specs.Built.{Each}
use Rattle.motion_chain.specs.MoveAt.{Chain-index_at}
use Rattle.motion_chain.specs.Times.{never_falls, places_per_time, list_refusal, PointsAnswer, moved, PointsAnswer-refusal, PointsAnswer-points}
use Rattle.motion_chain.specs.Times.{PointsAnswer-append, AnimatedTransform-transform_points, Chain-transform_points, Points-list, Chain-points_left}

-- ---- the parts

-- How many times at the front of the list are no later than the end.
unfoldable pub count_up_to : Float → List Float → ℕ
count_up_to end [] = 0
count_up_to end (t ∷ times) = cond (le t end) (suc (count_up_to end times)) 0

-- The stretches of m and the moves after it: each ends with the last time up to its move's end time, and the last is all that is left.
unfoldable pub stretches_from : AnimatedTransform → List AnimatedTransform → List Float → List (List Float)
stretches_from m [] times = times ∷ []
stretches_from m (next ∷ moves) times =
    let n = count_up_to m.end_time times in
    take n times ∷ stretches_from next moves (drop n times)

-- "each stretch of times is handed to its own move as a part of the list"
unfoldable pub Chain-stretches : Chain → List Float → List (List Float)
Chain-stretches c times = stretches_from c.first c.rest times

-- Each move asked at the times of its own stretch, in rising order.
unfoldable pub points_by_move : Point3f → List AnimatedTransform → List (List Float) → PointsAnswer
points_by_move p [] stretches = moved []
points_by_move p (m ∷ moves) [] = moved []
points_by_move p (m ∷ moves) (s ∷ stretches) = PointsAnswer-append (AnimatedTransform-transform_points m s p) (points_by_move p moves stretches)

-- ---- what holds of them

-- P holds of every item and its place, counted from i.
abbrev pub EachFrom : {A : Type 0} → (ℕ → A → Type 0) → ℕ → List A → Type 0
EachFrom P i [] = Unit {0}
EachFrom P i (x ∷ xs) = P i x × EachFrom P (suc i) xs

-- Of any chain and list: there is a stretch for each move, and the stretches joined give the list back.
-- Where the list never falls, a time of the stretch at a place belongs to the move at that place.
pub record Stretches (c : Chain) (times : List Float) : Type 0 where
  pub count : length (Chain-stretches c times) ≡ length (Chain-moves c)
  pub list : flatten (Chain-stretches c times) ≡ times
  pub belongs : T (never_falls times) → EachFrom (λ i stretch. Each (λ t. Chain-index_at c t ≡ i) stretch) 0 (Chain-stretches c times)

-- A part of the lent answers that one move has filled: three places for each time of its stretch, with the points that it answers.
pub record MovePart (p : Point3f) (m : AnimatedTransform) (stretch : List Float) (part : List Float) : Type 0 where
  pub accepted : PointsAnswer-refusal (AnimatedTransform-transform_points m stretch p) ≡ 0
  pub floats : part ≡ Points-list (PointsAnswer-points (AnimatedTransform-transform_points m stretch p))
  pub places : length part ≡ places_per_time * length stretch

-- The parts are filled by the moves in order, one for each.
abbrev pub MoveParts : Point3f → List AnimatedTransform → List (List Float) → List (List Float) → Type 0
MoveParts p [] [] [] = Unit {0}
MoveParts p [] [] (part ∷ parts) = ⊥
MoveParts p [] (s ∷ stretches) parts = ⊥
MoveParts p (m ∷ moves) [] parts = ⊥
MoveParts p (m ∷ moves) (s ∷ stretches) [] = ⊥
MoveParts p (m ∷ moves) (s ∷ stretches) (part ∷ parts) = MovePart p m s part × MoveParts p moves stretches parts

-- "That move's points go straight into its own part of the lent answers, three places a time"
pub record FilledByMoves (c : Chain) (times : List Float) (p : Point3f) (answers : List Float) : Type 0 where
  pub parts : List (List Float)
  pub whole : flatten parts ≡ answers
  pub each : MoveParts p (Chain-moves c) (Chain-stretches c times) parts

-- Of any chain, list, point and lent answers that pass the judging: the query is each move's query over its own stretch, joined;
-- and where it answers, each move fills its own part.
pub record StretchPoints (c : Chain) (times : List Float) (p : Point3f) (old : List Float) : Type 0 where
  pub query : list_refusal times p (length old) ≡ 0 → Chain-transform_points c times p (length old) ≡ points_by_move p (Chain-moves c) (Chain-stretches c times)
  pub filled : PointsAnswer-refusal (Chain-transform_points c times p (length old)) ≡ 0 → FilledByMoves c times p (Chain-points_left c times p old)
