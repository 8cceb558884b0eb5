-- `Zeros::accept` meets its contract: one return for each outcome of its test.
use Rattle.zero_list.specs.Zeros.{Zeros-accept}
use Rattle.zero_list.proofs.Zeros.accept.Goals as goal

pub returns-then-t-i : goal.returns-then-t-i
unfolding Zeros-accept
returns-then-t-i c = record { value = rw (c.store.ensures.value, c.if-t-i.true) }

pub returns : goal.returns
unfolding Zeros-accept
returns c = record { value = rw c.if-t-i.false }
