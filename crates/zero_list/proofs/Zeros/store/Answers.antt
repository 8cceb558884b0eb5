-- `Zeros::store` meets its contract: one return for each case of the count.
use borrow.Author.Tests.{lt-ltb, le-ltb}
use Rattle.zero_list.specs.Zeros.{Zeros-store}
use Rattle.zero_list.proofs.Zeros.store.Goals as goal

pub returns-then-n-lt8 : goal.returns-then-n-lt8
unfolding Zeros-store
returns-then-n-lt8 c = record { value = rw (lt-ltb _ 8 c.if-n-lt8.true) }

pub returns : goal.returns
unfolding Zeros-store
returns c = record { value = rw (c.empty.ensures.value, le-ltb _ 8 c.if-n-lt8.false) }
