-- What is promised of every answer to a cover query: which numbers it can give (`CoverNumber`, and of any box `BoundsAnswer-Numbered`), and that an accepted
-- cover's corners are finite and in order (`Proper`). The statements of `cover-number`, `cover-numbered` and `cover-proper`.
use Rattle.std.specs.Prelude.{ℕ, ◌≡◌, ◌⊎◌, List, T}
use Rattle.stored_box.specs.bounds3.Finite.{Bounds3f-is_finite}
use Rattle.stored_box.specs.transform.declared.BoundsAnswer.{BoundsAnswer}
use Rattle.stored_box.specs.transform.declared.BoundsAnswer.TheVariants.{Bounds}
use Rattle.stored_box.specs.transform.Answer.{OneOf, BoundsAnswer-refusal, BoundsAnswer-bounds}
use Rattle.stored_box.specs.pose_steps.Promise.{InOrder, SliceNumber}

-- document 01, Refusals: 6, 7 and 8 of the query; 0, 5 and 10 of the numbers themselves
abbrev pub CoverNumber : ℕ → Type 0
CoverNumber n = (n ≡ 6) ⊎ ((n ≡ 7) ⊎ ((n ≡ 8) ⊎ SliceNumber n))

-- The number is one of those listed, and an answer whose number is 0 is a box. (After a refusal the box is +0 by `BoundsAnswer-bounds`.)
pub record BoundsAnswer-Numbered (numbers : List ℕ) (a : BoundsAnswer) : Type 0 where
  pub number : OneOf (BoundsAnswer-refusal a) numbers
  pub none : BoundsAnswer-refusal a ≡ 0 → a ≡ Bounds (BoundsAnswer-bounds a)

-- Where nothing is refused, the box is finite and its corners are in order.
pub record Proper (r : BoundsAnswer) : Type 0 where
  pub finite : BoundsAnswer-refusal r ≡ 0 → T (Bounds3f-is_finite (BoundsAnswer-bounds r))
  pub order : BoundsAnswer-refusal r ≡ 0 → InOrder (BoundsAnswer-bounds r)
