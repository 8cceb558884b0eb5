-- What the code of a set joins: the boxes in the first places, in order. No promise cites it. Definitions only.
use Rattle.std.specs.Prelude.{ℕ, List, [], ◌∷◌, get_or, take, drop, Float}
use Rattle.bounds3.specs.declared.Bounds3f.{Bounds3f}
use Rattle.bounds3.specs.Bounds3f.{Bounds3f-union_bounds}
use Rattle.bounds3.specs.List.{Bounds3f-of_list}

-- u and then the boxes of the list.
abbrev pub union_boxes : Bounds3f → List (List Float) → Bounds3f
union_boxes u [] = u
union_boxes u (b ∷ boxes) = union_boxes (Bounds3f-union_bounds u (Bounds3f-of_list b)) boxes

-- The boxes in the first n places.
abbrev pub union_places : List (List Float) → ℕ → Bounds3f
union_places places n = union_boxes (Bounds3f-of_list (get_or places 0 [])) (drop 1 (take n places))
