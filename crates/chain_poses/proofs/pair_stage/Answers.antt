-- `pair_stage` meets its contract. Its loop keeps the first number of the pairs from the one whose second pose is i: that of all.
use borrow.Author.Tests.{eq-eqb, ne_eqb}
use Rattle.motion_chain.specs.Chain.{first_number}
use Rattle.chain_poses.proofs.Loops.{pairs_next, pairs_end}
use Rattle.chain_poses.proofs.pair_stage.Goals as goal

pub returns-then-number-ne0 : goal.returns-then-number-ne0
unfolding first_number
returns-then-number-ne0 c = record {
  value = let l = c.loop-i in
      rw (← l.invariant, pairs_next c.args.poses.now l.i l.auto.i c.loop-i-test.true, ← c.pair_number_at-number.ensures.value, ne_eqb _ 0 c.if-number-ne0.true);
}

pub loop-i-preserved : goal.loop-i-preserved
unfolding first_number
loop-i-preserved c =
    let l = c.loop-i in
    rw (← l.invariant, pairs_next c.args.poses.now l.i l.auto.i c.loop-i-test.true, ← c.pair_number_at-number.ensures.value, eq-eqb _ 0 c.if-number-ne0.false)

pub returns : goal.returns
unfolding first_number
returns c = record { value = let l = c.loop-i in rw (← l.invariant, pairs_end c.args.poses.now l.i l.auto.i c.loop-i-test.false) }
