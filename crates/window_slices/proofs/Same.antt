-- Answers that are the same: in both directions (`same-sym`), in a row (`same-trans`). An answer of finite numbers is the same as itself (`valued_same`), and
-- what is joined to answers that are the same is the same (`union-all-same`).
use mathlib.Core.Path.{◌≡◌, refl}
use mathlib.Core.List.{List, [], ◌∷◌, map}
use Rattle.bounds3.proofs.Union.{subset-trans, finite-self}
use Rattle.transform.specs.declared.BoundsAnswer.{BoundsAnswer}
use Rattle.transform.specs.declared.BoundsAnswer.TheVariants.{Bounds, Refused}
use Rattle.bounds_query.specs.Query.{BoundsAnswer-union_bounds}
use Rattle.bounds_query.specs.Same.{BoundsAnswer-Same, same-box, same-refusal}
use Rattle.bounds_query.proofs.Union.{union-same}
use Rattle.dt_pieces.proofs.motion_cover.Zeros.{Valued}
use Rattle.dt_pieces.specs.bounds_answers.UnionAll.{BoundsAnswer-union_all, Each}

pub same-sym : {r s : BoundsAnswer} → BoundsAnswer-Same r s → BoundsAnswer-Same s r
same-sym (same-box a b) = same-box b a
same-sym (same-refusal n) = same-refusal n

pub same-trans : {r s t : BoundsAnswer} → BoundsAnswer-Same r s → BoundsAnswer-Same s t → BoundsAnswer-Same r t
same-trans (same-box a b) (same-box c d) = same-box (subset-trans a c) (subset-trans d b)
same-trans (same-refusal n) h = h

pub valued_same : (r : BoundsAnswer) → Valued r → BoundsAnswer-Same r r
valued_same (Bounds b) v = let f = finite-self (v.values b refl).finite in same-box f f
valued_same (Refused n) v = same-refusal n

pub union-all-same : {r s : BoundsAnswer} → BoundsAnswer-Same r s → (l : List BoundsAnswer) → Each Valued l
    → BoundsAnswer-Same (BoundsAnswer-union_all r l) (BoundsAnswer-union_all s l)
union-all-same h [] v = h
union-all-same {r = r} {s = s} h (x ∷ l) (v, vs) =
    union-all-same {r = BoundsAnswer-union_bounds r x} {s = BoundsAnswer-union_bounds s x} (union-same h (valued_same x v)) l vs
