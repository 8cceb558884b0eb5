-- `put_places` puts a refusal, or `ok`, how many places there are, and the places and a line feed.
use Rattle.answer_lines.specs.motion_file.Text.{ascii}
use Rattle.answer_lines.specs.Pieces.{whole_pieces}
use Rattle.answer_lines.proofs.Pieces.{all_append}
use Rattle.answer_values.specs.Lines.{places_pieces}
use Rattle.answer_values.proofs.Lines.{answer-refused, answer_ok}
use Rattle.answer_values.proofs.put_places.Goals as goal

pub returns-then-refusal-ne0 : goal.returns-then-refusal-ne0
returns-then-refusal-ne0 c = let all = answer-refused c.args.refusal (places_pieces c.args.places.now c.args.count)
    c.args.out.now _ c.args.at _ c.if-refusal-ne0.true (c.put_refused.ensures.value, c.put_refused.ensures.left) in record { value = all.0; left = all.1 }

pub returns : goal.returns
unfolding ascii
returns c = let all = answer_ok c.args.refusal (places_pieces c.args.places.now c.args.count)
    c.args.out.now _ _ _ c.args.at _ _ _ c.if-refusal-ne0.false
    (c.put_text-ok.ensures.value, c.put_text-ok.ensures.left)
    (all_append (whole_pieces c.args.count) _ _ _ _ _ _ _ (c.put_decimal-behind.ensures.value, c.put_decimal-behind.ensures.left) (c.put_decimals-end.ensures.value, c.put_decimals-end.ensures.left))
    (c.put_text.ensures.value, c.put_text.ensures.left) in record { value = all.0; left = all.1 }
