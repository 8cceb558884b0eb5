-- `transform_at` meets its contract.
use Rattle.motion_rows.specs.Rows.{transform_at}
use borrow.Author.Rules.{rules}
use Rattle.motion_rows.proofs.transform_at.Goals as goal

pub returns : goal.returns
unfolding transform_at
returns c = record { value = cc }
