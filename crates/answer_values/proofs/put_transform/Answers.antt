-- `put_transform` puts a refusal, or `ok`, the rows and a line feed.
use Rattle.answer_lines.specs.motion_file.Text.{ascii}
use Rattle.answer_values.specs.Lines.{rows_pieces}
use Rattle.answer_values.proofs.Lines.{answer-refused, answer_ok}
use Rattle.answer_values.proofs.put_transform.Goals as goal

pub returns-then-refusal-ne0 : goal.returns-then-refusal-ne0
returns-then-refusal-ne0 c = let all = answer-refused c.args.refusal (rows_pieces 4 c.args.rows.now) c.args.out.now _ c.args.at _ c.if-refusal-ne0.true (c.put_refused.ensures.value, c.put_refused.ensures.left) in record { value = all.0; left = all.1 }

pub returns : goal.returns
unfolding ascii
returns c = let all = answer_ok c.args.refusal (rows_pieces 4 c.args.rows.now) c.args.out.now _ _ _ c.args.at _ _ _ c.if-refusal-ne0.false
    (c.put_text-ok.ensures.value, c.put_text-ok.ensures.left)
    (c.put_rows-end.ensures.value, c.put_rows-end.ensures.left)
    (c.put_text.ensures.value, c.put_text.ensures.left) in record { value = all.0; left = all.1 }
