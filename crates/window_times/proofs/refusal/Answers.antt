-- `refusal` meets its contract: one test.
use Rattle.window_times.proofs.refusal.Goals as goal

pub returns-then-w : goal.returns-then-w
returns-then-w c = record { value = rw c.if-w.true }

pub returns-else-w : goal.returns-else-w
returns-else-w c = record { value = rw c.if-w.false }
