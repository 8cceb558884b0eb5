-- What is promised of every answer to a point query: the statements of `transform-point-answered` and `transform-point-numbered`.
use Rattle.std.specs.Prelude.{ℕ, ◌≡◌, ◌⊎◌, List, T, Ok}
use Rattle.bounds3.specs.Finite.{Point3f-is_finite}
use Rattle.transform.specs.Answer.{PointAnswer, OneOf, PointAnswer-refusal, PointAnswer-point}

-- document 01, Refusals: "A point query .. never gives 4"; its numbers are 5 and 6, and an answer that isn't refused is finite
pub record PointAnswer-Answered (a : PointAnswer) : Type 0 where
  pub number : (PointAnswer-refusal a ≡ 0) ⊎ ((PointAnswer-refusal a ≡ 5) ⊎ (PointAnswer-refusal a ≡ 6))
  pub values : T (Point3f-is_finite (PointAnswer-point a))

-- The number is one of those listed, and an answer whose number is 0 is a moved point. (After a refusal the point is +0 by `PointAnswer-point`.)
pub record PointAnswer-Numbered (numbers : List ℕ) (a : PointAnswer) : Type 0 where
  pub number : OneOf (PointAnswer-refusal a) numbers
  pub none : PointAnswer-refusal a ≡ 0 → a ≡ Ok (PointAnswer-point a)
