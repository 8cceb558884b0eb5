-- `put_counted` puts a refusal, or `ok`, floats and whole numbers and a line feed.
use Rattle.answer_lines.specs.motion_file.Text.{ascii}
use Rattle.answer_lines.proofs.Pieces.{all_cons}
use Rattle.answer_values.specs.Lines.{counted_pieces}
use Rattle.answer_values.proofs.Lines.{answer-refused, answer_ok}
use Rattle.answer_values.proofs.put_counted.Goals as goal

pub returns-then-refusal-ne0 : goal.returns-then-refusal-ne0
returns-then-refusal-ne0 c = let all = answer-refused c.args.refusal (counted_pieces c.args.values.now c.args.counts.now)
    c.args.out.now _ c.args.at _ c.if-refusal-ne0.true (c.put_refused.ensures.value, c.put_refused.ensures.left) in record { value = all.0; left = all.1 }

pub returns : goal.returns
unfolding ascii
returns c = let all = answer_ok c.args.refusal (counted_pieces c.args.values.now c.args.counts.now)
    c.args.out.now _ _ _ c.args.at _ _ _ c.if-refusal-ne0.false
    (c.put_text-ok.ensures.value, c.put_text-ok.ensures.left)
    (all_cons _ _ _ _ _ _ _ _ (c.put_floats-behind.ensures.value, c.put_floats-behind.ensures.left) (c.put_decimals-end.ensures.value, c.put_decimals-end.ensures.left))
    (c.put_text.ensures.value, c.put_text.ensures.left) in record { value = all.0; left = all.1 }
