-- `put_count` puts a refusal, or `ok`, a whole number and a line feed.
use Rattle.answer_lines.specs.motion_file.Text.{ascii}
use Rattle.answer_lines.specs.Pieces.{whole_pieces}
use Rattle.answer_values.proofs.Lines.{answer-refused, answer_ok}
use Rattle.answer_values.proofs.put_count.Goals as goal

pub returns-then-refusal-ne0 : goal.returns-then-refusal-ne0
returns-then-refusal-ne0 c = let all = answer-refused c.args.refusal (whole_pieces c.args.count) c.args.out.now _ c.args.at _ c.if-refusal-ne0.true (c.put_refused.ensures.value, c.put_refused.ensures.left) in record { value = all.0; left = all.1 }

pub returns : goal.returns
unfolding ascii
returns c = let all = answer_ok c.args.refusal (whole_pieces c.args.count) c.args.out.now _ _ _ c.args.at _ _ _ c.if-refusal-ne0.false
    (c.put_text-ok.ensures.value, c.put_text-ok.ensures.left)
    (c.put_decimal-end.ensures.value, c.put_decimal-end.ensures.left)
    (c.put_text.ensures.value, c.put_text.ensures.left) in record { value = all.0; left = all.1 }
