-- `rise_from` meets its contract: what is left, after the last time, is what was asked of all.
use mathlib.Core.Path.{sym, ap, ◌∙◌}
use mathlib.Core.Bool.{not}
use native.Mathlib.Omega.{arith}
use Rattle.chain_join.proofs.Rise.{rise-fails, rise-goes, rise-ends}
use Rattle.chain_join.proofs.rise_from.Goals as goal

pub returns-then-not-last-end : goal.returns-then-not-last-end
returns-then-not-last-end c = record {
  value = let l = c.loop-rows in
      sym (rise-fails l.last c.args.moves.now l.rows-index c.loop-rows-test.true (ap not c.if-not-last-end.true)) ∙ l.invariant;
}

pub loop-rows-preserved : goal.loop-rows-preserved
loop-rows-preserved c =
    let l = c.loop-rows in
    rise-goes l.last c.args.moves.now l.rows-index c.loop-rows-test.true (ap not c.if-not-last-end.false) ∙ l.invariant

pub returns : goal.returns
returns c = record {
  value = let l = c.loop-rows in
      sym (rise-ends l.last c.args.moves.now l.rows-index (omega (arith, c.loop-rows-test.false, l.auto.rows-index-end))) ∙ l.invariant;
}
