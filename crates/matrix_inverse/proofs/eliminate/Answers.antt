-- `eliminate` meets its contract. The invariant: the rows below j are cleared.
use Prim.Native.Nat.{ℕ, ◌-◌}
use mathlib.Core.Path.{◌≡◌}
use lib.ListN.{set}
use borrow.Author.Tests.{eq-eqb, ne_eqb}
use native.Mathlib.Omega.{arith}
use borrow.Author.Rules.{rules}
use Rattle.matrix4x4.specs.Rows.{Row, Rows, row}
use Rattle.matrix_inverse.specs.Eliminate.{clear_row, clear_at, eliminate}
use Rattle.control_flow.proofs.Loop.{loop-start, loop-next, loop-end}
use Rattle.matrix_inverse.proofs.eliminate.Goals.{then-j-k, else-j-k}
use Rattle.matrix_inverse.proofs.eliminate.Goals as goal

pub loop-j-init : goal.loop-j-init
loop-j-init c = (search rules, loop-start _ _)

-- the loop's body, by its two ways
module _ (k j : ℕ) (m r : Rows) where
  other_row : (j ≡ k → ⊥) → (q : Row) → q ≡ clear_row (row m j) (row m k) k → r ≡ set m j q → r ≡ clear_at k j m
  unfolding clear_at
  other_row n q f e = rw (ne_eqb _ _ n, ← f) e

  pivot-row : j ≡ k → r ≡ m → r ≡ clear_at k j m
  unfolding clear_at
  pivot-row h e = rw (eq-eqb _ _ h) e

pub loop-j-preserved : goal.loop-j-preserved
loop-j-preserved c = (
  search rules,
  loop-next _ _ _ _ _ c.loop-j.invariant.1 (
      elim c.if-j-k.branch [
        | then-j-k w ↦ other_row _ _ _ _ w.if-j-k.true _ w.clear_row.ensures.value w.r-is
        | else-j-k w ↦ pivot-row _ _ _ _ w.if-j-k.false w.r-is
      ]
      ),
)

pub returns : goal.returns
unfolding eliminate
returns c = record { value = rw (← c.scale_row.ensures.value) (loop-end _ _ 4 _ _ (omega arith) c.loop-j.invariant.1) }
