-- `name_rows` meets its contract. The invariant: the rows before i are asked.
use Rattle.reach_rows.proofs.Named.{boxes_of, Naming}
use Rattle.reach_rows.proofs.name_rows.Given as goal

abbrev pub invariant-loop-i : goal.invariant-loop-i
invariant-loop-i l = Naming (boxes_of l.boxes) l.rows l.initial.names l.names l.i
