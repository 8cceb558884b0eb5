-- `put_groups` puts one by one. The invariant: the first i places are filled.
use native.Mathlib.Omega.{arith}
use lib.ListN.{length}
use lib.Seq.{paste-zero}
use Rattle.question_values.specs.Places.{groups_from}
use Rattle.question_values.proofs.Places.{groups-turn, groups-all}
use Rattle.question_values.proofs.put_groups.Goals as goal

pub loop-i-init : goal.loop-i-init
loop-i-init g c = let a = c.args in paste-zero a.groups.now 0 (groups_from g.row.N (length a.groups.now) 0 a.values.now)

pub loop-i-preserved : goal.loop-i-preserved
loop-i-preserved g c =
    let a = c.args in
    let l = c.loop-i in
    groups-turn g.row.N a.values.now a.groups.now l.groups l.i _ (omega arith) l.invariant c.nth_group.ensures

pub returns : goal.returns
returns g c = let a = c.args in let l = c.loop-i in record { left = groups-all g.row.N a.values.now a.groups.now l.groups l.i (omega arith) l.invariant }
