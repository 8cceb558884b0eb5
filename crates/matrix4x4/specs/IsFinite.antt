-- Whether every entry of a matrix is finite. Definitions only.
use Rattle.std.specs.Prelude.{Bool}
use Rattle.std.specs.Float.Ieee.Scale.{finite}
use Rattle.matrix4x4.specs.Rows.{Rows, at, all}

-- document 01, Refusals: 5 where a finished matrix "holds a value that isn't finite", and 1 where an entry of a pose does
unfoldable pub Matrix4x4-is_finite : Rows → Bool
Matrix4x4-is_finite m = all (λ i. all (λ j. finite (at m i j)))
