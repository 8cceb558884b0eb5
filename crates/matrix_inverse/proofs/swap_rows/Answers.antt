-- `swap_rows` meets its contract: its test and its stores are the definition's.
use borrow.Author.Tests.{eq-eqb, ne_eqb}
use Rattle.matrix_inverse.specs.Eliminate.{swap_rows}
use Rattle.matrix_inverse.proofs.swap_rows.Goals as goal

pub returns-then-i-k : goal.returns-then-i-k
unfolding swap_rows
returns-then-i-k c = record { value = rw (ne_eqb _ _ c.if-i-k.true) }

pub returns-else-i-k : goal.returns-else-i-k
unfolding swap_rows
returns-else-i-k c = record { value = rw (eq-eqb _ _ c.if-i-k.false) }
