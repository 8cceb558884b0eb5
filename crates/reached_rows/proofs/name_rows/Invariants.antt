-- `name_rows` meets its contract. Its loop keeps that the places named so far, with those among the rows that are left, are all of them.
use Rattle.reached_rows.proofs.Loop.{Loop}
use Rattle.reached_rows.proofs.name_rows.Given as goal

abbrev pub invariant-loop-i : goal.invariant-loop-i
invariant-loop-i l = Loop l.cover l.rows l.places l.count l.i
