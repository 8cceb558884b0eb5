-- `moves_number` meets its contract. Its loop keeps the first number of the moves from the one whose second pose is i: that of all.
use borrow.Author.Tests.{eq-eqb, ne_eqb}
use Rattle.chain_poses.specs.motion_chain.Chain.{first_number}
use Rattle.chain_poses.proofs.Loops.{pairs_end}
use Rattle.chain_number.proofs.ChainNumber.{moves_next}
use Rattle.chain_number.proofs.moves_number.Goals as goal

pub returns-then-number-ne0 : goal.returns-then-number-ne0
returns-then-number-ne0 c = record {
  value = let l = c.loop-i in
      let a = c.args in
      let next = moves_next a.rigid a.poses.now l.i l.auto.i c.loop-i-test.true c.move_number-number.ensures.value in
      rw (← l.invariant, next, ne_eqb _ 0 c.if-number-ne0.true);
}

pub loop-i-preserved : goal.loop-i-preserved
loop-i-preserved c =
    let l = c.loop-i in
    let a = c.args in
    let next = moves_next a.rigid a.poses.now l.i l.auto.i c.loop-i-test.true c.move_number-number.ensures.value in
    rw (← l.invariant, next, eq-eqb _ 0 c.if-number-ne0.false)

pub returns : goal.returns
unfolding first_number
returns c = record { value = let l = c.loop-i in rw (← l.invariant, pairs_end c.args.poses.now l.i l.auto.i c.loop-i-test.false) }
