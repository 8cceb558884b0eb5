-- `to_rows` meets its contract.
use Rattle.motion_rows.specs.Rows.{AnimatedTransform-to_rows}
use borrow.Author.Rules.{rules}
use Rattle.motion_rows.proofs.to_rows.Goals as goal

pub returns : goal.returns
unfolding AnimatedTransform-to_rows
returns c = record { value = cc }
