-- Whether a matrix is affine: its bottom row is 0 0 0 1, with a zero of either sign; and that row, `bottom_row`. Definitions only.
use Rattle.std.specs.Prelude.{Bool, ◌&&◌, [], ◌∷◌}
use Rattle.std.specs.Float.Ieee.{eq}
use Rattle.float32.specs.Operators.{one}
use Rattle.matrix4x4.specs.Rows.{Row, Rows, at, positive_zero}

-- the Rust's [0.0, 0.0, 0.0, 1.0]
abbrev pub bottom_row : Row
bottom_row = positive_zero ∷ positive_zero ∷ positive_zero ∷ one ∷ []

-- document 01, Refusals: 2 where "a bottom row isn't 0, 0, 0, 1 (either zero)"
unfoldable pub Matrix4x4-is_affine : Rows → Bool
Matrix4x4-is_affine m = eq (at m 3 0) positive_zero && eq (at m 3 1) positive_zero && eq (at m 3 2) positive_zero && eq (at m 3 3) one
