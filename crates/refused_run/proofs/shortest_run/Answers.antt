-- `shortest_run` meets its contract, in the three ways that it ends (proofs/Search.antt).
use borrow.Author.Rules.{rules}
use Rattle.chain_number.specs.chain_poses.Poses.{Poses-of_lists}
use Rattle.refused_run.proofs.Search.{accepted-clauses, twelve-clauses, found-clauses}
use Rattle.refused_run.proofs.shortest_run.Goals as goal

pub returns-then-number-eq0 : goal.returns-then-number-eq0
returns-then-number-eq0 c = let a = c.args in let all = accepted-clauses a.rigid (Poses-of_lists a.poses.now) c.number-number.ensures.value c.if-number-eq0.true in record { value = all.0; shortest = all.1 }

pub returns-then-number-eq12 : goal.returns-then-number-eq12
returns-then-number-eq12 c = let a = c.args in let all = twelve-clauses a.rigid (Poses-of_lists a.poses.now) c.number-number.ensures.value c.if-number-eq0.false c.if-number-eq12.true in record { value = all.0; shortest = all.1 }

pub returns : goal.returns
returns c = let a = c.args in let all = found-clauses a.rigid (Poses-of_lists a.poses.now) c.number-number.ensures.value c.if-number-eq0.false c.if-number-eq12.false c.first_of.ensures.value in record { value = all.0; shortest = all.1 }
