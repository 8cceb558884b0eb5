-- `constants_from_rows` meets its contract.
use Rattle.motion_rows.specs.Rows.{PoseConstants-from_rows}
use borrow.Author.Rules.{rules}
use Rattle.motion_rows.proofs.constants_from_rows.Goals as goal

pub returns : goal.returns
unfolding PoseConstants-from_rows
returns c = record { value = cc }
