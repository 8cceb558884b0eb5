-- `pair_number_at` meets its contract.
use borrow.Author.Tests.{eq-eqb, ne_eqb}
use Rattle.motion_chain.specs.Chain.{Pair-number}
use Rattle.chain_poses.proofs.pair_number_at.Goals as goal

pub returns-then-start-end : goal.returns-then-start-end
unfolding Pair-number
returns-then-start-end c = record { value = rw (eq-eqb _ 12 c.if-k-eq12.true, c.if-start-end.true) }

pub returns-then-k-eq12 : goal.returns-then-k-eq12
unfolding Pair-number
returns-then-k-eq12 c = record { value = rw (eq-eqb _ 12 c.if-k-eq12.true, c.if-start-end.false) }

pub returns-in-Ok : goal.returns-in-Ok
unfolding Pair-number
returns-in-Ok c = record { value = rw (ne_eqb _ 12 c.if-k-eq12.false, eq-eqb _ 3 c.if-k-eq3.true) c.in-Ok.ensures.value }

pub returns-in-Err : goal.returns-in-Err
unfolding Pair-number
returns-in-Err c = record {
  value = rw (ne_eqb _ 12 c.if-k-eq12.false, eq-eqb _ 3 c.if-k-eq3.true) (rw (← c.number.ensures.value) at c.in-Err.ensures.value);
}

pub returns : goal.returns
unfolding Pair-number
returns c = record { value = rw (ne_eqb _ 12 c.if-k-eq12.false, ne_eqb _ 3 c.if-k-eq3.false) }
