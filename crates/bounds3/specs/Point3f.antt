-- pbrt's operations on a point, a coordinate at a time. Definitions only.
use Rattle.std.specs.Prelude.{Float}
use Rattle.float32.specs.MinMax.{min_num, max_num}
use Rattle.float32.specs.Operators.{◌⊘◌}
use Rattle.bounds3.specs.declared.Point3f.{Point3f}

-- document 01, Numbers: least and greatest of two, on each axis
unfoldable pub Point3f-min : Point3f → Point3f → Point3f
Point3f-min p q = record { x = min_num p.x q.x; y = min_num p.y q.y; z = min_num p.z q.z }

unfoldable pub Point3f-max : Point3f → Point3f → Point3f
Point3f-max p q = record { x = max_num p.x q.x; y = max_num p.y q.y; z = max_num p.z q.z }

-- document 01, Numbers: "a vector divided component by component"
abbrev pub Point3f-div : Point3f → Float → Point3f
Point3f-div p f = record { x = p.x ⊘ f; y = p.y ⊘ f; z = p.z ⊘ f }
