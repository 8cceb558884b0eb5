-- A 4x4 matrix by value, `[[f32; 4]; 4]`, is a list of four rows of four floats: `at` reads an entry, `tabulate` makes a row or a matrix.
-- A matrix that is kept, a transform's, a pose's or a scale, is a Matrix4x4, with a field for each row: `Matrix4x4-to_rows`, `Matrix4x4-from_rows`.
-- An entry outside the four rows and columns would read as NaN; no definition reads one. Definitions only.
use Rattle.std.specs.Prelude.{ℕ, Bool, ◌&&◌, List, [], ◌∷◌, get_or, Float}
use Rattle.std.specs.Float.{nan}
pub use Rattle.float32.specs.Operators.{positive_zero}
use Rattle.matrix4x4.specs.declared.Matrix4x4.{Matrix4x4}

abbrev pub Row : Type 0
Row = List Float

abbrev pub Rows : Type 0
Rows = List Row

-- row i of a matrix
abbrev pub row : Rows → ℕ → Row
row m i = get_or m i []

-- the entry of a row in column j
abbrev pub col : Row → ℕ → Float
col r j = get_or r j nan

-- pbrt's `m.m[i][j]`
abbrev pub at : Rows → ℕ → ℕ → Float
at m i j = col (row m i) j

-- f at 0, 1, 2 and 3
abbrev pub tabulate : {A : Type 0} → (ℕ → A) → List A
tabulate f = f 0 ∷ f 1 ∷ f 2 ∷ f 3 ∷ []

-- whether p holds at 0, 1, 2 and 3
abbrev pub all : (ℕ → Bool) → Bool
all p = p 0 && p 1 && p 2 && p 3

abbrev pub Matrix4x4-to_rows : Matrix4x4 → Rows
Matrix4x4-to_rows m = m.r0 ∷ m.r1 ∷ m.r2 ∷ m.r3 ∷ []

abbrev pub Matrix4x4-from_rows : Rows → Matrix4x4
Matrix4x4-from_rows m = record { r0 = row m 0; r1 = row m 1; r2 = row m 2; r3 = row m 3 }

-- every entry +0: what a refusal has in a matrix's place
abbrev pub Matrix4x4-zero : Matrix4x4
Matrix4x4-zero = Matrix4x4-from_rows (tabulate (λ i. tabulate (λ j. positive_zero)))
