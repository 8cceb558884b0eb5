-- The union of a list of answers, in order: `BoundsAnswer-union_all`, of which the first refusal stands. Definitions only.
use Rattle.std.specs.Prelude.{List, [], ◌∷◌}
use Rattle.cover_depth.specs.transform.declared.BoundsAnswer.{BoundsAnswer}
use Rattle.cover_depth.specs.bounds_query.Query.{BoundsAnswer-union_bounds}

-- r and then the answers, from the left.
abbrev pub BoundsAnswer-union_all : BoundsAnswer → List BoundsAnswer → BoundsAnswer
BoundsAnswer-union_all r [] = r
BoundsAnswer-union_all r (s ∷ answers) = BoundsAnswer-union_all (BoundsAnswer-union_bounds r s) answers

-- P holds of every item.
abbrev pub Each : {A : Type 0} → (A → Type 0) → List A → Type 0
Each P [] = Unit {0}
Each P (x ∷ xs) = P x × Each P xs
