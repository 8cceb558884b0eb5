-- `sooner` meets its contract: its test is the definition's.
use Rattle.run_starts.proofs.sooner.Goals as goal

pub returns-then-t-end : goal.returns-then-t-end
returns-then-t-end c = record { value = rw c.if-t-end.true }

pub returns : goal.returns
returns c = record { value = rw c.if-t-end.false }
