-- The row and the column of a pivot are below 4 (`search-in_range`).
use Prim.Native.Nat.{ℕ, ◌<◌}
use mathlib.Core.Path.{◌≡◌}
use mathlib.Core.Bool.{◌&&◌}
use mathlib.Core.List.{List}
use native.Mathlib.Omega.{arith}
use lib.Dec.{eqb}
use lib.ListN.{get_or}
use lib.Ieee.{le}
use Rattle.float32.specs.Abs.{abs}
use Rattle.matrix4x4.specs.Rows.{Row, Rows, row, col}
use Rattle.matrix_inverse.specs.declared.Pivot.{Pivot}
use Rattle.control_flow.specs.Loop.{loop}
use Rattle.matrix_inverse.specs.Pivot.{consider, search_row, Pivot-search}
use Rattle.control_flow.proofs.Loop.{loop-keeps}
use Rattle.control_flow.proofs.Choice.{cond-keeps}

abbrev pub InRange : Pivot → Type 0
InRange p = (p.irow < 4) × (p.icol < 4)

module _ (m : Rows) (ipiv : List ℕ) where
  consider-in_range : (r : Row) (j k : ℕ) (p : Pivot) → j < 4 → k < 4 → InRange p → InRange (consider r ipiv j k p)
  unfolding consider
  consider-in_range r j k p a b h =
      cond-keeps InRange (eqb (get_or ipiv k 0) 0 && le p.big (abs (col r k))) (record { big = abs (col r k); irow = j; icol = k }) p (a, b) h

  search_row-in_range : (j : ℕ) (p : Pivot) → j < 4 → InRange p → InRange (search_row m ipiv j p)
  unfolding search_row
  search_row-in_range j p a h =
      cond-keeps InRange (eqb (get_or ipiv j 0) 1) p (loop (consider (row m j) ipiv j) 4 p) h
      (loop-keeps (λ k. InRange) (consider (row m j) ipiv j) 4 (λ k q b. consider-in_range (row m j) j k q a b) p h)

  pub search-in_range : (p : Pivot) → p ≡ Pivot-search m ipiv → InRange p
  unfolding Pivot-search
  search-in_range p e = rw e (loop-keeps (λ j. InRange) (search_row m ipiv) 4 (λ j q b. search_row-in_range j q b) _ (omega arith))
