-- `coefficients_at` meets its contract.
use Rattle.motion_rows.specs.Rows.{coefficients_at}
use borrow.Author.Rules.{rules}
use Rattle.motion_rows.proofs.coefficients_at.Goals as goal

pub returns : goal.returns
unfolding coefficients_at
returns c = record { value = cc }
