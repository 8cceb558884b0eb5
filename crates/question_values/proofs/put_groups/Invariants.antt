-- `put_groups` puts one by one. The invariant: the first i places are filled.
use mathlib.Core.Path.{◌≡◌}
use lib.ListN.{length}
use lib.Seq.{paste}
use Rattle.question_values.specs.Places.{groups_from}
use Rattle.question_values.proofs.put_groups.Given as goal

abbrev pub invariant-loop-i : goal.invariant-loop-i
invariant-loop-i g l = l.groups ≡ paste l.initial.groups 0 (groups_from g.row.N (length l.initial.groups) 0 l.values) l.i
