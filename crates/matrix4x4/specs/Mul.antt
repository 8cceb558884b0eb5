-- The product of two matrices, each operation rounded. Definitions only.
use Rattle.std.specs.Prelude.{Float}
use Rattle.float32.specs.Operators.{◌⊕◌, ◌⊗◌}
use Rattle.matrix4x4.specs.Rows.{Row, Rows, row, col, tabulate}
use Rattle.matrix4x4.specs.Transpose.{column}

-- four products, summed from the left
abbrev pub dot4 : Row → Row → Float
dot4 r c = col r 0 ⊗ col c 0 ⊕ col r 1 ⊗ col c 1 ⊕ col r 2 ⊗ col c 2 ⊕ col r 3 ⊗ col c 3

-- pbrt's `Matrix4x4::mul`: the entry in row i and column j is m1[i][0] * m2[0][j] + m1[i][1] * m2[1][j] + m1[i][2] * m2[2][j] + m1[i][3] * m2[3][j]
unfoldable pub Matrix4x4-mul : Rows → Rows → Rows
Matrix4x4-mul m1 m2 = tabulate (λ i. tabulate (λ j. dot4 (row m1 i) (column m2 j)))
