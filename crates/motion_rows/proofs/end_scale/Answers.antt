-- `end_scale` meets its contract: four rows of the move that the rows hold.
use Rattle.motion_rows.specs.Rows.{AnimatedTransform-from_rows}
use borrow.Author.Rules.{rules}
use Rattle.motion_rows.proofs.end_scale.Goals as goal

pub returns : goal.returns
unfolding AnimatedTransform-from_rows
returns c = record { value = c.matrix_at.ensures.value }
