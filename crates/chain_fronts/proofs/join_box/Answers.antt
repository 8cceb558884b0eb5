-- `join_box` meets its contract: a chain of calls.
use borrow.Author.Rules.{rules}
use Rattle.chain_fronts.proofs.join_box.Goals as goal

pub returns : goal.returns
returns c = record { left = cc }
