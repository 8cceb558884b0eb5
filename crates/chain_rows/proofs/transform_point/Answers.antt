-- `transform_point` meets its contract, and for the rows of a chain it is the chain's point query (`point-clauses`).
use borrow.Author.Rules.{rules}
use borrow.Author.Tests.{eq-eqb, ne_eqb}
use Rattle.chain_rows.specs.Kept.{Moves-transform_point}
use Rattle.chain_rows.proofs.Kept.{point-clauses}
use Rattle.chain_rows.proofs.transform_point.Goals as goal

pub returns-then-moves-eq0 : goal.returns-then-moves-eq0
unfolding Moves-transform_point
returns-then-moves-eq0 c = let a = c.args in let all = point-clauses a.moves.now a.time a.p (rw (eq-eqb _ 0 c.if-moves-eq0.true)) in record { value = all.0; kept = all.1 }

pub returns : goal.returns
unfolding Moves-transform_point
returns c = let a = c.args in let all = point-clauses a.moves.now a.time a.p
    (rw (ne_eqb _ 0 c.if-moves-eq0.false, ← c.place-i.ensures.value, c.transform_point.ensures.value)) in record { value = all.0; kept = all.1 }
