-- `jellyplain_reached_rows` meets its contract: the rows that the cover in the array meets.
use borrow.Author.Rules.{rules}
use Rattle.api.proofs.jellyplain_reached_rows.Goals as goal

pub returns : goal.returns
returns c = record { refusal = rw c.bounds.ensures.value at c.list_rows.ensures.refusal; count = rw c.bounds.ensures.value at c.list_rows.ensures.count; left = rw c.bounds.ensures.value at c.list_rows.ensures.left; apart = rw c.bounds.ensures.value at c.list_rows.ensures.apart; kept_apart = rw c.bounds.ensures.value at c.list_rows.ensures.kept_apart }
