-- `saturated` meets its contract, on either side of its test.
use borrow.Author.Tests.{lt-ltb, le-ltb}
use Rattle.question_lines.proofs.saturated.Goals as goal

pub returns-then-n-lt4294967296 : goal.returns-then-n-lt4294967296
returns-then-n-lt4294967296 c = record { value = simp (lt-ltb _ _ c.if-n-lt4294967296.true) }

pub returns-else-n-lt4294967296 : goal.returns-else-n-lt4294967296
returns-else-n-lt4294967296 c = record { value = simp (le-ltb _ _ c.if-n-lt4294967296.false) }
