-- The transpose of a matrix. Definitions only.
use Rattle.std.specs.Prelude.{ℕ}
use Rattle.matrix4x4.specs.Rows.{Row, Rows, at, tabulate}

-- column j, from the top
abbrev pub column : Rows → ℕ → Row
column m j = tabulate (λ i. at m i j)

-- pbrt's `Matrix4x4::transpose`: row j is column j
unfoldable pub Matrix4x4-transpose : Rows → Rows
Matrix4x4-transpose m = tabulate (λ j. column m j)
