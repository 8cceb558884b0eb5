-- Whether two matrices are equal, entry by entry as floats compare: a NaN differs from itself, and the two zeros are equal. Definitions only.
use Rattle.std.specs.Prelude.{Bool}
use Rattle.std.specs.Float.Ieee.{eq}
use Rattle.matrix4x4.specs.Rows.{Rows, at, all}

-- pbrt's `PartialEq` of Matrix4x4
unfoldable pub Matrix4x4-eq : Rows → Rows → Bool
Matrix4x4-eq m1 m2 = all (λ i. all (λ j. eq (at m1 i j) (at m2 i j)))
