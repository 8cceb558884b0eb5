-- `mask_text` meets its contract: two words behind a space.
use Rattle.mask_lines.proofs.Text.{words-text}
use Rattle.mask_lines.proofs.mask_text.Goals as goal

pub returns : goal.returns
returns c = record { value = rw (c.write_word-2.ensures.value, c.write_word.ensures.value) (words-text _) }
