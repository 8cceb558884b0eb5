-- `jellyplain_write_file` meets its contract: that of `write` at the box in the lent array.
use borrow.Author.Rules.{rules}
use Rattle.api.proofs.jellyplain_write_file.Goals as goal

pub returns : goal.returns
returns c = record { refusal = rw (c.bounds.ensures.value, c.asked.ensures.value) at c.write.ensures.refusal; length = rw (c.bounds.ensures.value, c.asked.ensures.value) at c.write.ensures.length; left = rw (c.bounds.ensures.value, c.asked.ensures.value) at c.write.ensures.left; written_back = rw (c.bounds.ensures.value, c.asked.ensures.value) at c.write.ensures.written_back }
