-- `restore_at` meets its contract: its test is the definition's, and the indices are in range by what it requires.
use Prim.Native.Nat.{ℕ, ◌-◌}
use mathlib.Core.Path.{◌≡◌}
use mathlib.Core.List.{List}
use lib.ListN.{get_or}
use borrow.Author.Tests.{eq-eqb, ne_eqb}
use Rattle.matrix4x4.specs.Rows.{Rows}
use Rattle.matrix_inverse.specs.RestoreColumns.{restore_at}
use Rattle.matrix_inverse.proofs.restore_at.Goals as goal

-- equal places leave the matrix as it is
same-places : (indxr indxc : List ℕ) (i : ℕ) (m : Rows) → get_or indxr (3 - i) 0 ≡ get_or indxc (3 - i) 0 → m ≡ restore_at indxr indxc i m
unfolding restore_at
same-places indxr indxc i m e = rw (eq-eqb _ _ e)

pub returns-then-a-b : goal.returns-then-a-b
returns-then-a-b c = record { value = same-places _ _ _ _ c.if-a-b.true }

pub swap_columns-requires : goal.swap_columns-requires
swap_columns-requires c = (c.requires.1 _, c.requires.2 _)

pub returns : goal.returns
unfolding restore_at
returns c = record { value = rw (ne_eqb _ _ c.if-a-b.false) c.swap_columns.ensures.value }
