-- `put_refused` puts the word, the number and a line feed.
use mathlib.Core.List.{[], ◌∷◌}
use Rattle.answer_lines.proofs.Pieces.{all_none, all_cons, all_append}
use Rattle.motion_text.specs.motion_file.Text.{ascii, line_feed}
use Rattle.answer_lines.specs.Pieces.{whole_pieces}
use Rattle.answer_lines.proofs.put_refused.Goals as goal

pub returns : goal.returns
unfolding ascii
returns c = let a = c.args in let n = a.refusal in let all = all_cons (ascii "refused") _ a.out.now _ _ a.at _ _
    (c.put_text-word.ensures.value, c.put_text-word.ensures.left)
    (all_append (whole_pieces n) ((line_feed ∷ []) ∷ []) _ _ _ _ _ _
    (c.put_decimal-end.ensures.value, c.put_decimal-end.ensures.left)
    (all_cons (line_feed ∷ []) [] _ _ _ _ _ _ (c.put_text.ensures.value, c.put_text.ensures.left) (all_none _ _))) in record { value = all.0; left = all.1 }
