-- `put_error` puts the word and a line feed.
use Rattle.answer_lines.specs.motion_file.Text.{ascii}
use Rattle.answer_values.specs.Lines.{error_text}
use Rattle.answer_values.proofs.put_error.Goals as goal

pub returns : goal.returns
unfolding error_text ascii
returns c = record { value = c.put_text.ensures.value; left = c.put_text.ensures.left }
