-- `rise` meets its contract. Its loop keeps the test of the ticks from the one before i on.
use mathlib.Core.Path.{sym, ◌∙◌}
use lib.Ieee.{nan}
use Rattle.control_flow.proofs.Neighbours.{fails-here, holds-next, holds-end}
use Rattle.tick_list.proofs.Loops.{rises}
use Rattle.tick_list.proofs.rise.Goals as goal

pub returns-then-not-ticks-i : goal.returns-then-not-ticks-i
returns-then-not-ticks-i c = record {
  value = let l = c.loop-i in
      sym (fails-here rises nan c.args.ticks.now l.i l.auto.i c.loop-i-test.true c.if-not-ticks-i.true) ∙ l.invariant;
}

pub loop-i-preserved : goal.loop-i-preserved
loop-i-preserved c =
    let l = c.loop-i in
    holds-next rises nan c.args.ticks.now l.i l.auto.i c.loop-i-test.true c.if-not-ticks-i.false ∙ l.invariant

pub returns : goal.returns
returns c = record {
  value = let l = c.loop-i in
      sym (holds-end rises nan c.args.ticks.now l.i l.auto.i c.loop-i-test.false) ∙ l.invariant;
}
