-- `put_values` puts a refusal, or `ok`, floats and a line feed.
use mathlib.Core.List.{[], ◌∷◌}
use Rattle.answer_lines.specs.motion_file.Text.{ascii}
use Rattle.answer_lines.specs.Pieces.{floats_text}
use Rattle.answer_lines.proofs.Pieces.{all_cons, all_none}
use Rattle.answer_values.proofs.Lines.{answer-refused, answer_ok}
use Rattle.answer_values.proofs.put_values.Goals as goal

pub returns-then-refusal-ne0 : goal.returns-then-refusal-ne0
returns-then-refusal-ne0 c = let all = answer-refused c.args.refusal (floats_text c.args.values.now c.args.count ∷ [])
    c.args.out.now _ c.args.at _ c.if-refusal-ne0.true (c.put_refused.ensures.value, c.put_refused.ensures.left) in record { value = all.0; left = all.1 }

pub returns : goal.returns
unfolding ascii
returns c = let all = answer_ok c.args.refusal (floats_text c.args.values.now c.args.count ∷ [])
    c.args.out.now _ _ _ c.args.at _ _ _ c.if-refusal-ne0.false
    (c.put_text-ok.ensures.value, c.put_text-ok.ensures.left)
    (all_cons _ [] _ _ _ _ _ _ (c.put_floats-end.ensures.value, c.put_floats-end.ensures.left) (all_none _ _))
    (c.put_text.ensures.value, c.put_text.ensures.left) in record { value = all.0; left = all.1 }
