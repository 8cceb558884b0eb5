-- `consider` meets its contract: its two tests are the definition's two.
use Prim.Native.Nat.{ℕ}
use mathlib.Core.Path.{◌≡◌}
use mathlib.Core.Bool.{true, false}
use mathlib.Core.List.{List}
use lib.ListN.{get_or}
use lib.Ieee.{le}
use borrow.Author.Tests.{eq-eqb, ne_eqb}
use Rattle.float32.specs.Abs.{abs}
use Rattle.matrix4x4.specs.Rows.{Row, col}
use Rattle.matrix_inverse.specs.declared.Pivot.{Pivot}
use Rattle.matrix_inverse.specs.Pivot.{consider}
use Rattle.matrix_inverse.proofs.consider.Goals as goal

-- the column is taken where it is free and its entry is not below the greatest so far
module _ (r : Row) (ipiv : List ℕ) (j k : ℕ) (p : Pivot) where
  taken : get_or ipiv k 0 ≡ 0 → le p.big (abs (col r k)) ≡ true → record { big = abs (col r k); irow = j; icol = k } ≡ consider r ipiv j k p
  unfolding consider
  taken e f = rw (eq-eqb _ _ e, f)

  below : get_or ipiv k 0 ≡ 0 → le p.big (abs (col r k)) ≡ false → p ≡ consider r ipiv j k p
  unfolding consider
  below e f = rw (eq-eqb _ _ e, f)

  used : (get_or ipiv k 0 ≡ 0 → ⊥) → p ≡ consider r ipiv j k p
  unfolding consider
  used e = rw (ne_eqb _ _ e)

pub returns-then-abs-p : goal.returns-then-abs-p
returns-then-abs-p c = record { value = rw c.abs-abs.ensures.value (taken _ _ _ _ _ c.if-ipiv-k-eq0.true (rw c.abs-abs.ensures.value at c.if-abs-p.true)) }

pub returns-else-abs-p : goal.returns-else-abs-p
returns-else-abs-p c = record { value = below _ _ _ _ _ c.if-ipiv-k-eq0.true (rw c.abs-abs.ensures.value at c.if-abs-p.false) }

pub returns-else-ipiv-k-eq0 : goal.returns-else-ipiv-k-eq0
returns-else-ipiv-k-eq0 c = record { value = used _ _ _ _ _ c.if-ipiv-k-eq0.false }
