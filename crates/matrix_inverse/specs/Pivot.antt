-- The search for a pivot in pbrt's `Matrix4x4::inverse`: the entry of greatest absolute value, of equals the last met, among the rows j with ipiv[j] != 1
-- and the columns k with ipiv[k] == 0. A NaN is never taken, since `>=` is false of it; where nothing is taken the place is row 0, column 0. Definitions only.
use Rattle.std.specs.Prelude.{ℕ, ◌&&◌, cond, List, eqb, get_or}
use Rattle.std.specs.Float.Ieee.{le}
use Rattle.float32.specs.Abs.{abs}
use Rattle.matrix4x4.specs.Rows.{Row, Rows, row, col, positive_zero}
use Rattle.matrix_inverse.specs.declared.Pivot.{Pivot}
use Rattle.control_flow.specs.Loop.{loop}

-- the inner loop's body, row j being r: column k is taken if ipiv[k] == 0 and abs >= big
unfoldable pub consider : Row → List ℕ → ℕ → ℕ → Pivot → Pivot
consider r ipiv j k p =
    cond (eqb (get_or ipiv k 0) 0 && le p.big (abs (col r k)))
    (record { big = abs (col r k); irow = j; icol = k })
    p

-- the outer loop's body
unfoldable pub search_row : Rows → List ℕ → ℕ → Pivot → Pivot
search_row m ipiv j p = cond (eqb (get_or ipiv j 0) 1) p (loop (consider (row m j) ipiv j) 4 p)

unfoldable pub Pivot-search : Rows → List ℕ → Pivot
Pivot-search m ipiv = loop (search_row m ipiv) 4 (record { big = positive_zero; irow = 0; icol = 0 })
