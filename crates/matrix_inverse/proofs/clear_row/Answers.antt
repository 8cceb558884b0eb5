-- `clear_row` meets its contract: it works on the row with 0 in the pivot's column.
use Rattle.matrix_inverse.specs.Eliminate.{clear_row}
use Rattle.matrix_inverse.proofs.clear_row.Goals as goal

pub returns : goal.returns
unfolding clear_row
returns c = record { value = rw c.replace-s.ensures.value }
