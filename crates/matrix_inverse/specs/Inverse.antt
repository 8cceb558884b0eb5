-- The inverse of a matrix by pbrt's Gauss-Jordan elimination with full pivoting, and a refusal beside it: 4 where a chosen pivot is a zero of either sign,
-- met before its division, even where the matrix holds a NaN or an infinity; 5 where an entry is not finite once the columns are back; 0 otherwise.
-- After a refusal every entry is +0. A column chosen more than once, which pbrt logs, refuses nothing of itself. Definitions only.
use Rattle.std.specs.Prelude.{ℕ, ◌+◌, ◌<◌, cond, List, get_or, set, Result, Ok, Err}
use Rattle.std.specs.Float.Ieee.{eq}
use Rattle.matrix4x4.specs.Rows.{Rows, at, tabulate, positive_zero}
use Rattle.matrix4x4.specs.IsFinite.{Matrix4x4-is_finite}
use Rattle.refusal.specs.declared.Refusal.{Refusal}
use Rattle.refusal.specs.Number.{Refusal-number}
use Rattle.control_flow.specs.Loop.{loop}
use Rattle.matrix_inverse.specs.Pivot.{Pivot-search}
use Rattle.matrix_inverse.specs.Eliminate.{swap_rows, eliminate}
use Rattle.matrix_inverse.specs.RestoreColumns.{restore_columns}

-- Where the elimination stands: at a zero pivot, or with pbrt's `minv`, `ipiv` (how many pivots each column has had),
-- `indxr` and `indxc` (each round's pivot row and column).
pub data Elimination : Type 0 where
  zero_pivot : Elimination
  running : Rows → List ℕ → List ℕ → List ℕ → Elimination

-- the body of pbrt's loop over i
unfoldable pub elimination_round : ℕ → Elimination → Elimination
elimination_round i zero_pivot = zero_pivot
elimination_round i (running minv ipiv indxr indxc) =
    let p = Pivot-search minv ipiv in
    let s = swap_rows minv p.irow p.icol in
    cond (eq (at s p.icol p.icol) positive_zero) zero_pivot
    (running (eliminate s p.icol) (set ipiv p.icol (get_or ipiv p.icol 0 + 1)) (set indxr i p.irow) (set indxc i p.icol))

-- A matrix beside a refusal's number, 0 for none: after a refusal every entry is +0.
pub record InverseAnswer : Type 0 where
  pub m : Rows
  pub refusal : ℕ

abbrev pub refused : ℕ → InverseAnswer
refused n = record { m = tabulate (λ i. tabulate (λ j. positive_zero)); refusal = n }

abbrev pub InverseAnswer-of_result : Result Rows Refusal → InverseAnswer
InverseAnswer-of_result (Ok m) = record { m = m; refusal = 0 }
InverseAnswer-of_result (Err r) = refused (Refusal-number r)

-- document 01, Refusals: "Each inverse, product and polar round's matrix is judged as its last entry is written."
unfoldable pub InverseAnswer-judged : Rows → InverseAnswer
InverseAnswer-judged m = cond (Matrix4x4-is_finite m) (record { m = m; refusal = 0 }) (refused 5)

unfoldable pub finish : Elimination → InverseAnswer
finish zero_pivot = refused 4
finish (running minv ipiv indxr indxc) = InverseAnswer-judged (restore_columns minv indxr indxc)

-- `vec![0; 4]`
abbrev pub zeros : List ℕ
zeros = tabulate (λ k. 0)

-- pbrt's `Matrix4x4::inverse`
unfoldable pub Matrix4x4-inverse : Rows → InverseAnswer
Matrix4x4-inverse m = finish (loop elimination_round 4 (running m zeros zeros zeros))

-- Every number of a list is below n.
abbrev pub AllBelow : ℕ → List ℕ → Type 0
AllBelow n xs = (k : ℕ) → get_or xs k 0 < n
