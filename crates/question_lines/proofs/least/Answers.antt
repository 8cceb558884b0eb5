-- `least` is the lesser of two, test by test.
use native.Mathlib.Omega.{arith}
use borrow.Author.Tests.{lt-ltb, le-ltb}
use Rattle.question_lines.proofs.least.Goals as goal

pub returns-then-a-b : goal.returns-then-a-b
returns-then-a-b c = record { upper_bound = omega arith; value = rw (lt-ltb _ _ c.if-a-b.true) }

pub returns-else-a-b : goal.returns-else-a-b
returns-else-a-b c = record { upper_bound = omega arith; value = rw (le-ltb _ _ c.if-a-b.false) }
