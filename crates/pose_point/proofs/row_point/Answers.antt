-- `row_point` meets its contract.
use borrow.Author.Rules.{rules}
use Rattle.pose_point.proofs.row_point.Goals as goal

pub returns : goal.returns
returns c = record { value = cc }
