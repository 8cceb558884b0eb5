-- `all_finite` meets its contract.
use borrow.Author.Rules.{rules}
use Rattle.pose.proofs.all_finite.Goals as goal

pub returns : goal.returns
returns c = record { value = cc }
