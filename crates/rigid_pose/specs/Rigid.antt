-- What a rigid build asks of a pose's matrix: that it neither scales nor shears (17), then that it mirrors nothing (18). Definitions only.
use Rattle.std.specs.Prelude.{ℕ, Bool, not, ◌&&◌, ◌||◌, cond, Float}
use Rattle.std.specs.Float.{binary32}
use Rattle.std.specs.Float.Ieee.{of_bits, lt, le}
use Rattle.float32.specs.Operators.{◌⊕◌, ◌⊖◌, ◌⊗◌, positive_zero}
use Rattle.float32.specs.Abs.{abs}
use Rattle.matrix4x4.specs.Rows.{Row, Rows, row, col}
use Rattle.matrix4x4.specs.Transpose.{column}
use Rattle.transform.specs.HasScale.{Matrix4x4-has_scale}

-- The dot product of the first three of two rows or columns.
abbrev pub dot3 : Row → Row → Float
dot3 a b = col a 0 ⊗ col b 0 ⊕ col a 1 ⊗ col b 1 ⊕ col a 2 ⊗ col b 2

-- document 02, "Rigid booms": "at most the float nearest 0.001 in size"; a NaN isn't
unfoldable pub near_zero : Float → Bool
near_zero x = le (abs x) (of_bits binary32 0x3a83126f)

-- "the rounded dot product of any two columns of the three-by-three part": a product has the same bits in either order, so that three pairs are all
unfoldable pub Matrix4x4-has_shear : Rows → Bool
Matrix4x4-has_shear m =
    not (near_zero (dot3 (column m 0) (column m 1)) && near_zero (dot3 (column m 0) (column m 2)) && near_zero (dot3 (column m 1) (column m 2)))

-- "the rounded determinant, expanded along the first row, m00 first", of rows a, b and c, each step rounded
abbrev pub expansion : Row → Row → Row → Float
expansion a b c =
    col a 0 ⊗ (col b 1 ⊗ col c 2 ⊖ col b 2 ⊗ col c 1)
    ⊖ col a 1 ⊗ (col b 0 ⊗ col c 2 ⊖ col b 2 ⊗ col c 0)
    ⊕ col a 2 ⊗ (col b 0 ⊗ col c 1 ⊖ col b 1 ⊗ col c 0)

-- of the three-by-three part
abbrev pub Matrix4x4-determinant : Rows → Float
Matrix4x4-determinant m = expansion (row m 0) (row m 1) (row m 2)

-- "A pose that scales or shears is 17, then a determinant of zero or below is 18"; 0 is none
unfoldable pub Matrix4x4-rigid_number : Rows → ℕ
Matrix4x4-rigid_number m = cond (Matrix4x4-has_scale m || Matrix4x4-has_shear m) 17 (cond (lt positive_zero (Matrix4x4-determinant m)) 0 18)
