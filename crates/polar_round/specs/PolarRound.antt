-- What a polar round of pbrt's `decompose` works with: the linear part of a matrix, the mean of two matrices, and the norm of their difference.
-- Definitions only.
use Rattle.std.specs.Prelude.{ℕ, [], ◌∷◌, Float}
use Rattle.float32.specs.Operators.{◌⊕◌, ◌⊖◌, ◌⊗◌, one, half}
use Rattle.float32.specs.Abs.{abs}
use Rattle.float32.specs.MinMax.{max_num}
use Rattle.matrix4x4.specs.Rows.{Row, Rows, row, col, at, tabulate, positive_zero}

-- `new_m`: the matrix without translation, with the bottom row and the right column of the identity
unfoldable pub linear_part : Rows → Rows
linear_part m =
    (at m 0 0 ∷ at m 0 1 ∷ at m 0 2 ∷ positive_zero ∷ [])
    ∷ (at m 1 0 ∷ at m 1 1 ∷ at m 1 2 ∷ positive_zero ∷ [])
    ∷ (at m 2 0 ∷ at m 2 1 ∷ at m 2 2 ∷ positive_zero ∷ [])
    ∷ (positive_zero ∷ positive_zero ∷ positive_zero ∷ one ∷ [])
    ∷ []

-- `rnext.m[i][j] = 0.5 * (r.m[i][j] + rit.m[i][j])`
abbrev pub mean_row : Row → Row → Row
mean_row r s = tabulate (λ j. half ⊗ (col r j ⊕ col s j))

unfoldable pub mean : Rows → Rows → Rows
mean m1 m2 = tabulate (λ i. mean_row (row m1 i) (row m2 i))

-- `n`: the absolute differences in a row, summed over the first three columns
unfoldable pub row_distance : Row → Row → Float
row_distance r s = abs (col r 0 ⊖ col s 0) ⊕ abs (col r 1 ⊖ col s 1) ⊕ abs (col r 2 ⊖ col s 2)

-- `norm`: 0, then with each of the first three rows the greatest of two
unfoldable pub distance : Rows → Rows → Float
distance m1 m2 =
    let n : ℕ → Float = λ i. row_distance (row m1 i) (row m2 i) in
    max_num (max_num (max_num positive_zero (n 0)) (n 1)) (n 2)
