-- What a round of the elimination does to the matrix, once its pivot is chosen. Definitions only.
use Rattle.std.specs.Prelude.{ℕ, cond, eqb, set, Float}
use Rattle.float32.specs.Operators.{◌⊖◌, ◌⊗◌, ◌⊘◌, one}
use Rattle.matrix4x4.specs.Rows.{Row, Rows, row, col, tabulate, positive_zero}
use Rattle.control_flow.specs.Loop.{loop}

-- rows i and k change places `if irow != icol`
unfoldable pub swap_rows : Rows → ℕ → ℕ → Rows
swap_rows m i k = cond (eqb i k) m (set (set m i (row m k)) k (row m i))

-- the row r with x in column k
unfoldable pub replace : Row → ℕ → Float → Row
replace r k x = tabulate (λ j. cond (eqb k j) x (col r j))

-- the pivot's row: 1 in the pivot's place, then each entry times `pivinv`, which is 1 / the pivot
unfoldable pub scale_row : Row → ℕ → Row
scale_row r k = tabulate (λ j. col (replace r k one) j ⊗ (one ⊘ col r k))

-- another row r, p being the pivot's: 0 in the pivot's column, then `save`, which stood there, times the pivot's row is subtracted
unfoldable pub clear_row : Row → Row → ℕ → Row
clear_row r p k = tabulate (λ j. col (replace r k positive_zero) j ⊖ col p j ⊗ col r k)

-- row j, `if j != icol`
unfoldable pub clear_at : ℕ → ℕ → Rows → Rows
clear_at k j m = cond (eqb j k) m (set m j (clear_row (row m j) (row m k) k))

-- the pivot, in row and column k, is divided by, and its column cleared in the other rows
unfoldable pub eliminate : Rows → ℕ → Rows
eliminate m k = loop (clear_at k) 4 (set m k (scale_row (row m k) k))
