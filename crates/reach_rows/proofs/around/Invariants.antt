-- `around` meets its contract. The invariant: what one of the boxes meets, the union or one of those from b on meets.
use Rattle.reach_rows.proofs.Named.{Growing}
use Rattle.reach_rows.proofs.around.Given as goal

abbrev pub invariant-loop-b : goal.invariant-loop-b
invariant-loop-b l = Growing l.boxes l.union l.b-index
