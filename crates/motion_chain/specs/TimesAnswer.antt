-- What is promised of a query with a list of times: each time is answered as by a query of its own, `TimesAnswered`;
-- which numbers it can give, `TimesNumbers`; that the lent answers keep their length, `TimesLeft`; and the guarantee,
-- `ChainContainsTimes`. The statements of `times-answered`, `times-numbers`, `times-left` and `chain-contains-times`.
use Rattle.std.specs.Prelude.{ℕ, ◌*◌, ◌≡◌, List, [], ◌∷◌, ◌++◌, T, length, Float}
use Rattle.bounds_answers.specs.bounds3.declared.Point3f.{Point3f}
use Rattle.bounds_answers.specs.bounds3.declared.Bounds3f.{Bounds3f}
use Rattle.bounds_answers.specs.bounds3.Inside.{Inside}
use Rattle.bounds_answers.specs.transform.declared.BoundsAnswer.{BoundsAnswer}
use Rattle.bounds_answers.specs.transform.Answer.{OneOf, PointAnswer-refusal, PointAnswer-point, BoundsAnswer-refusal, BoundsAnswer-bounds}
use Rattle.bounds_answers.specs.formula.Promise.{Pairwise}
use Rattle.bounds_answers.specs.motion_pad.Grow.{PaddedInside}
use Rattle.motion_chain.specs.Chain.{Chain, Chain-transform_point, Chain-pad_at}
use Rattle.motion_chain.specs.Built.{BuiltChain}
use Rattle.motion_chain.specs.Times.{times_are_numbers, never_falls, places_per_time, list_refusal, PointsAnswer, moved}
use Rattle.motion_chain.specs.Times.{PointsAnswer-refusal, PointsAnswer-points, Chain-transform_points, Chain-points_left}

-- ---- each time
-- The points are what the chain answers at the times, one for each.
abbrev pub EachMoved : Chain → Point3f → List Float → List Point3f → Type 0
EachMoved c p [] [] = Unit {0}
EachMoved c p [] (q ∷ qs) = ⊥
EachMoved c p (t ∷ times) [] = ⊥
EachMoved c p (t ∷ times) (q ∷ qs) =
    (PointAnswer-refusal (Chain-transform_point c t p) ≡ 0) × (PointAnswer-point (Chain-transform_point c t p) ≡ q) × EachMoved c p times qs

-- The first time at which the chain refuses: those before it are answered.
pub record FirstRefused (c : Chain) (p : Point3f) (times : List Float) (n : ℕ) : Type 0 where
  pub before : List Float
  pub time : Float
  pub after : List Float
  pub split : times ≡ before ++ time ∷ after
  pub points : List Point3f
  pub answered : EachMoved c p before points
  pub number : PointAnswer-refusal (Chain-transform_point c time p) ≡ n

-- Once the list and the places have passed, a list's points are those of queries at its times, and its number is that of the first time that is refused.
pub record TimesAnswered (c : Chain) (times : List Float) (p : Point3f) (places : ℕ) : Type 0 where
  pub moved-each : let a = Chain-transform_points c times p places in PointsAnswer-refusal a ≡ 0 → EachMoved c p times (PointsAnswer-points a)
  pub refused-first : let a = Chain-transform_points c times p places in
      list_refusal times p places ≡ 0 → (PointsAnswer-refusal a ≡ 0 → ⊥) → FirstRefused c p times (PointsAnswer-refusal a)

-- ---- the numbers
-- The number is one of those listed, and an answer whose number is 0 is the points.
pub record PointsAnswer-Numbered (numbers : List ℕ) (a : PointsAnswer) : Type 0 where
  pub number : OneOf (PointsAnswer-refusal a) numbers
  pub none : PointsAnswer-refusal a ≡ 0 → a ≡ moved (PointsAnswer-points a)

-- 6 and 13 in the judging, and only 5 in the work
pub record TimesNumbers (c : Chain) (times : List Float) (p : Point3f) (places : ℕ) : Type 0 where
  pub judging : OneOf (list_refusal times p places) (0 ∷ 6 ∷ 13 ∷ [])
  pub work : list_refusal times p places ≡ 0 → PointsAnswer-Numbered (0 ∷ 5 ∷ []) (Chain-transform_points c times p places)
  pub query : PointsAnswer-Numbered (0 ∷ 5 ∷ 6 ∷ 13 ∷ []) (Chain-transform_points c times p places)

-- ---- the lent answers
-- They are as long as they came, whatever is answered.
abbrev pub TimesLeft : Chain → List Float → Point3f → List Float → Type 0
TimesLeft c times p old = length (Chain-points_left c times p old) ≡ length old

-- ---- the guarantee
-- The answer is not refused: a point for each time, inside the box by itself and less and plus the pad at that time.
pub record PointsInside (box : Bounds3f) (pad_at : Float → Float) (times : List Float) (answer : PointsAnswer) : Type 0 where
  pub accepted : PointsAnswer-refusal answer ≡ 0
  pub inside : Pairwise (λ t q. PaddedInside box (pad_at t) q) times (PointsAnswer-points answer)

-- c is the chain, b the box of points, r what the cover query answered.
abbrev pub ChainContainsTimes : Chain → Bounds3f → BoundsAnswer → Type 0
ChainContainsTimes c b r =
    (times : List Float) (p : Point3f)
    → BuiltChain c → BoundsAnswer-refusal r ≡ 0 → T (times_are_numbers times) → T (never_falls times) → Inside b p
    → PointsInside (BoundsAnswer-bounds r) (Chain-pad_at c) times (Chain-transform_points c times p (places_per_time * length times))
