-- `zeros_in_front` is `zeros_in_front`, test by test.
use native.Mathlib.Omega.{arith}
use borrow.Author.Tests.{lt-ltb, le-ltb}
use Rattle.motion_text.proofs.zeros_in_front.Goals as goal

pub returns-then-number-lt10 : goal.returns-then-number-lt10
returns-then-number-lt10 c = record { value = rw (lt-ltb _ _ c.if-number-lt10.true); bound = omega arith }

pub returns-then-number-lt100 : goal.returns-then-number-lt100
returns-then-number-lt100 c = record { value = rw (le-ltb _ _ c.if-number-lt10.false, lt-ltb _ _ c.if-number-lt100.true); bound = omega arith }

pub returns-else-number-lt100 : goal.returns-else-number-lt100
returns-else-number-lt100 c = record { value = rw (le-ltb _ _ c.if-number-lt10.false, le-ltb _ _ c.if-number-lt100.false); bound = omega arith }
