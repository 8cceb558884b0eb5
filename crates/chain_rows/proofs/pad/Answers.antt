-- `pad` meets its contract, and for the rows of a chain it is the chain's pad query (`pad-clauses`).
use borrow.Author.Rules.{rules}
use borrow.Author.Tests.{eq-eqb, ne_eqb}
use Rattle.chain_rows.specs.Kept.{Moves-pad}
use Rattle.chain_rows.proofs.Kept.{pad-clauses}
use Rattle.chain_rows.proofs.pad.Goals as goal

pub returns-then-moves-eq0 : goal.returns-then-moves-eq0
unfolding Moves-pad
returns-then-moves-eq0 c = let a = c.args in let all = pad-clauses a.moves.now a.time (rw (eq-eqb _ 0 c.if-moves-eq0.true)) in record { value = all.0; kept = all.1 }

pub returns : goal.returns
unfolding Moves-pad
returns c = let a = c.args in let all = pad-clauses a.moves.now a.time
    (rw (ne_eqb _ 0 c.if-moves-eq0.false, ← c.place-i.ensures.value, c.pad.ensures.value)) in record { value = all.0; kept = all.1 }
