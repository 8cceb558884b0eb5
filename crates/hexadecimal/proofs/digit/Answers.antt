-- `digit` is the digit of `n % 16` in `lower_digits`, by the range that the value lies in (`lower_digits-ranges`).
use Prim.Native.Nat.{◌%◌}
use borrow.Author.Tests.{lt-ltb, le-ltb}
use native.Mathlib.Omega.{arith}
use Rattle.hexadecimal.proofs.Digits.{lower_digits-ranges}
use Rattle.hexadecimal.proofs.digit.Goals as goal

pub returns-then-d-lt10 : goal.returns-then-d-lt10
returns-then-d-lt10 c = record { value = rw (lt-ltb _ _ c.if-d-lt10.true) at (lower_digits-ranges (c.args.n % 16) (omega arith)) }

pub returns-else-d-lt10 : goal.returns-else-d-lt10
returns-else-d-lt10 c = record { value = rw (le-ltb _ _ c.if-d-lt10.false) at (lower_digits-ranges (c.args.n % 16) (omega arith)) }
