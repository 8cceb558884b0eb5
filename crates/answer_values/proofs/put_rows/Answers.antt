-- `put_rows` puts them one by one. The invariant: what is left from the k-th on, put from `end` on, makes the whole.
use native.Mathlib.Omega.{arith}
use mathlib.Core.Path.{refl, sym, ◌∙◌}
use mathlib.Core.List.{[]}
use Rattle.std.proofs.lemmas.List.{get_or_default}
use Rattle.answer_values.proofs.Lines.{rows-turn, rows_end}
use Rattle.answer_values.proofs.put_rows.Goals as goal

pub loop-row-init : goal.loop-row-init
loop-row-init g c = (refl, refl)

pub loop-row-preserved : goal.loop-row-preserved
loop-row-preserved g c =
    let l = c.loop-row in
    let rows = c.args.rows.now in
    let row = c.row-item.is ∙ get_or_default rows l.row-index c.row-item.result [] c.loop-row-test.true in
    let put = c.put_floats-end.ensures in
    let turn = rows-turn g.row.N rows l.row-index l.out _ l.end _ (omega arith) (rw row at put.value, rw row at put.left) in
    (turn.0 ∙ l.invariant.0, turn.1 ∙ l.invariant.1)

pub returns : goal.returns
returns g c = let l = c.loop-row in let end = rows_end g.row.N c.args.rows.now l.row-index l.out l.end (omega arith) in record { value = sym end.0 ∙ l.invariant.0; left = sym end.1 ∙ l.invariant.1 }
