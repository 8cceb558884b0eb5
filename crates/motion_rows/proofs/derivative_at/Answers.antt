-- `derivative_at` meets its contract.
use Rattle.motion_rows.specs.Rows.{derivative_at}
use borrow.Author.Rules.{rules}
use Rattle.motion_rows.proofs.derivative_at.Goals as goal

pub returns : goal.returns
unfolding derivative_at
returns c = record { value = cc }
