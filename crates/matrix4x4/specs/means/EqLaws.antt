-- The laws that Rust's `==` has to keep, of matrices: it is symmetric and transitive, as that of each entry is.
use Rattle.std.specs.Prelude.{ℕ}
use Rattle.std.specs.Float.Ieee.{eq}
use Rattle.std.specs.Cmp.{IsPartialEquivalence, and_per}
use Rattle.std.specs.Float.Cmp.{on_floats_per}
use Rattle.std.specs.Ordering.{on}
use Rattle.matrix4x4.specs.declared.Matrix4x4.{Matrix4x4}
use Rattle.matrix4x4.specs.Rows.{at, all, Matrix4x4-to_rows}
use Rattle.matrix4x4.specs.Eq.{Matrix4x4-eq}

entry-laws : (i j : ℕ) → IsPartialEquivalence (λ (m n : Matrix4x4). eq (at (Matrix4x4-to_rows m) i j) (at (Matrix4x4-to_rows n) i j))
entry-laws i j = on_floats_per (λ m. at (Matrix4x4-to_rows m) i j)

row-laws : (i : ℕ) → IsPartialEquivalence (λ (m n : Matrix4x4). all (λ j. eq (at (Matrix4x4-to_rows m) i j) (at (Matrix4x4-to_rows n) i j)))
row-laws i = and_per (and_per (and_per (entry-laws i 0) (entry-laws i 1)) (entry-laws i 2)) (entry-laws i 3)

pub Matrix4x4-eq-laws : IsPartialEquivalence (on Matrix4x4-to_rows Matrix4x4-eq)
unfolding Matrix4x4-eq
Matrix4x4-eq-laws = and_per (and_per (and_per (row-laws 0) (row-laws 1)) (row-laws 2)) (row-laws 3)
