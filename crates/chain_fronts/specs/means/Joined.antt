-- A box joined to what stands in its place, `joined_box`; the first n boxes of a list, each in its place, `Places-joined`. Definitions only.
use Rattle.std.specs.Prelude.{ℕ, List, take, Float}
use Rattle.lent_arrays.specs.bounds3.Bounds3f.{Bounds3f-union_bounds}
use Rattle.lent_arrays.specs.bounds3.List.{Bounds3f-list, Bounds3f-of_list}
use Rattle.box_front.specs.means.Front.{Places-put}

abbrev pub joined_box : List Float → List Float → List Float
joined_box moved old = Bounds3f-list (Bounds3f-union_bounds (Bounds3f-of_list old) (Bounds3f-of_list moved))

abbrev pub Places-joined : ℕ → List (List Float) → List (List Float) → List (List Float)
Places-joined n moved places = Places-put joined_box (take n moved) places
