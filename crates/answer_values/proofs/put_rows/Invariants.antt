-- `put_rows` puts them one by one. The invariant: what is left from the k-th on, put from `end` on, makes the whole.
use lib.ListN.{drop}
use Rattle.answer_values.specs.Lines.{rows_pieces}
use Rattle.answer_values.proofs.Lines.{Left}
use Rattle.answer_values.proofs.put_rows.Given as goal

abbrev pub invariant-loop-row : goal.invariant-loop-row
invariant-loop-row g l = Left (rows_pieces g.row.N (drop l.row-index l.rows)) (rows_pieces g.row.N l.rows) l.initial.out l.out l.at l.end
