-- `number` meets its contract: the checks' number, or else the moves' (`chain-number`).
use borrow.Author.Rules.{rules}
use borrow.Author.Tests.{eq-eqb, ne_eqb}
use Rattle.chain_poses.specs.Poses.{Poses-of_lists}
use Rattle.chain_number.proofs.ChainNumber.{chain-number}
use Rattle.chain_number.proofs.number.Goals as goal

pub returns-then-checked-ne0 : goal.returns-then-checked-ne0
returns-then-checked-ne0 c = record {
  value = let a = c.args in
      rw (chain-number a.rigid (Poses-of_lists a.poses.now), ← c.refusal-checked.ensures.value, ne_eqb _ 0 c.if-checked-ne0.true);
}

pub returns : goal.returns
returns c = record {
  value = let a = c.args in
      rw (chain-number a.rigid (Poses-of_lists a.poses.now), ← c.refusal-checked.ensures.value, eq-eqb _ 0 c.if-checked-ne0.false, c.moves_number.ensures.value);
}
