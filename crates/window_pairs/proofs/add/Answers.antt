-- `add` meets its contract: what was found, or one place more.
use borrow.Author.Rules.{rules}
use Rattle.window_pairs.specs.means.Found.{Found-add}
use Rattle.window_pairs.proofs.add.Goals as goal

pub returns-then-not-meets : goal.returns-then-not-meets
unfolding Found-add
returns-then-not-meets c = record { value = rw c.if-not-meets.true }

pub returns : goal.returns
unfolding Found-add
returns c = record { value = rw c.if-not-meets.false }
