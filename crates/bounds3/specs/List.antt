-- Points and boxes as lists of floats, and back: a point is x, y, z; a box is its least corner and then its greatest. Definitions only.
-- A place outside a list would read as NaN; no definition reads one.
use Rattle.std.specs.Prelude.{List, [], ◌∷◌, ◌++◌, get_or, Float}
use Rattle.std.specs.Float.{nan}
use Rattle.bounds3.specs.declared.Point3f.{Point3f}
use Rattle.bounds3.specs.declared.Bounds3f.{Bounds3f}

abbrev pub Point3f-list : Point3f → List Float
Point3f-list p = p.x ∷ p.y ∷ p.z ∷ []

abbrev pub Point3f-of_list : List Float → Point3f
Point3f-of_list l = record { x = get_or l 0 nan; y = get_or l 1 nan; z = get_or l 2 nan }

abbrev pub Bounds3f-list : Bounds3f → List Float
Bounds3f-list b = Point3f-list b.p_min ++ Point3f-list b.p_max

abbrev pub Bounds3f-of_list : List Float → Bounds3f
Bounds3f-of_list l =
    record {
      p_min = record { x = get_or l 0 nan; y = get_or l 1 nan; z = get_or l 2 nan };
      p_max = record { x = get_or l 3 nan; y = get_or l 4 nan; z = get_or l 5 nan };
    }
