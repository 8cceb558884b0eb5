-- `scale_row` meets its contract: it works on the row with 1 in the pivot's place.
use Rattle.matrix_inverse.specs.Eliminate.{scale_row}
use Rattle.matrix_inverse.proofs.scale_row.Goals as goal

pub returns : goal.returns
unfolding scale_row
returns c = record { value = rw c.replace-s.ensures.value }
