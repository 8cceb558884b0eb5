-- `never_falls` meets its contract. Its loop keeps the test of the times from the one before i on.
use mathlib.Core.Path.{sym, ◌∙◌}
use lib.Ieee.{nan}
use Rattle.motion_chain.proofs.control_flow.Neighbours.{fails-here, holds-next, holds-end}
use Rattle.time_list.proofs.Loops.{never-falls}
use Rattle.time_list.proofs.never_falls.Goals as goal

pub returns-then-not-times-i : goal.returns-then-not-times-i
returns-then-not-times-i c = record {
  value = let l = c.loop-i in
      sym (fails-here never-falls nan c.args.times.now l.i l.auto.i c.loop-i-test.true c.if-not-times-i.true) ∙ l.invariant;
}

pub loop-i-preserved : goal.loop-i-preserved
loop-i-preserved c =
    let l = c.loop-i in
    holds-next never-falls nan c.args.times.now l.i l.auto.i c.loop-i-test.true c.if-not-times-i.false ∙ l.invariant

pub returns : goal.returns
returns c = record {
  value = let l = c.loop-i in
      sym (holds-end never-falls nan c.args.times.now l.i l.auto.i c.loop-i-test.false) ∙ l.invariant;
}
