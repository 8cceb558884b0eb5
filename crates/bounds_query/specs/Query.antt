-- What document 01 asks of the box of a query and of the depth of a cover, and the union of two answers. Definitions only.
use Rattle.std.specs.Prelude.{ℕ, Bool, not, ◌||◌, cond, eqb, ltb}
use Rattle.std.specs.Float.Ieee.{lt}
use Rattle.bounds3.specs.declared.Bounds3f.{Bounds3f}
use Rattle.bounds3.specs.Bounds3f as bounds3
use Rattle.bounds3.specs.Finite.{Bounds3f-is_finite}
use Rattle.transform.specs.declared.BoundsAnswer.{BoundsAnswer}
use Rattle.transform.specs.declared.BoundsAnswer.TheVariants.{Bounds, Refused}

-- No least coordinate is above its greatest.
unfoldable pub Bounds3f-is_ordered : Bounds3f → Bool
Bounds3f-is_ordered b =
    let l = b.p_min in
    let h = b.p_max in
    not (lt h.x l.x || lt h.y l.y || lt h.z l.z)

-- document 01, Refusals, "in this order": 6 where "a coordinate is not finite", 7 where "a least corner is above its greatest corner on some axis"; 0 is none
unfoldable pub Bounds3f-refusal : Bounds3f → ℕ
Bounds3f-refusal b = cond (not (Bounds3f-is_finite b)) 6 (cond (not (Bounds3f-is_ordered b)) 7 0)

-- "a depth d from 0 to 12"
abbrev pub max_depth : ℕ
max_depth = 12

-- document 01, Refusals, "in this order": 6 and 7 of the box, 8 where "the depth is above 12"; 0 is none
unfoldable pub cover_refusal : Bounds3f → ℕ → ℕ
cover_refusal b d = let n = Bounds3f-refusal b in cond (eqb n 0) (cond (ltb max_depth d) 8 0) n

-- `union_bounds` of two answers: the first refusal met stands
unfoldable pub BoundsAnswer-union_bounds : BoundsAnswer → BoundsAnswer → BoundsAnswer
BoundsAnswer-union_bounds (Bounds a) (Bounds b) = Bounds (bounds3.Bounds3f-union_bounds a b)
BoundsAnswer-union_bounds (Bounds a) (Refused n) = Refused n
BoundsAnswer-union_bounds (Refused n) s = Refused n
