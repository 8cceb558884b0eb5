-- `count_refusal` is `count_refusal`, test by test.
use borrow.Author.Tests.{lt-ltb, le-ltb}
use Rattle.chain_join.proofs.count_refusal.Goals as goal

pub returns-then-poses-gt32 : goal.returns-then-poses-gt32
returns-then-poses-gt32 c = record { value = rw (lt-ltb 32 _ c.if-poses-gt32.true) }

pub returns-else-poses-gt32 : goal.returns-else-poses-gt32
returns-else-poses-gt32 c = record { value = rw (le-ltb 32 _ c.if-poses-gt32.false) }
