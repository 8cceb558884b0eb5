-- `held` meets its contract: its first and its last block are the chain's first and last move (`held-worked`).
use borrow.Author.Tests.{eq-eqb}
use Rattle.chain_held.specs.Held.{Moves-held}
use Rattle.chain_held.proofs.Clauses.{held-worked, held-clauses}
use borrow.Author.Rules.{rules}
use Rattle.chain_held.proofs.held.Goals as goal

pub returns-then-n-eq0 : goal.returns-then-n-eq0
unfolding Moves-held
returns-then-n-eq0 c = let all = held-clauses c.args.moves.now _ (rw (eq-eqb _ 0 c.if-n-eq0.true)) in record { value = all.0; as_set = all.1 }

pub returns : goal.returns
returns c = let rows = c.args.moves.now in let all = held-clauses rows _ (held-worked rows c.is_rigid-rigid.result c.if-n-eq0.false c.is_rigid-rigid.ensures.value) in record { value = all.0; as_set = all.1 }
