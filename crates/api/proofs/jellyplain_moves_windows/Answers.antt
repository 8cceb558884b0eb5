-- `jellyplain_moves_windows` meets its contract: the windows of the chains in the rows.
use borrow.Author.Rules.{rules}
use Rattle.api.proofs.jellyplain_moves_windows.Goals as goal

pub returns : goal.returns
returns c = record { refusal = rw (c.bounds.ensures.value, c.bounds-2.ensures.value, c.asked.ensures.value, c.asked-2.ensures.value) at c.list_windows.ensures.refusal; count = rw (c.bounds.ensures.value, c.bounds-2.ensures.value, c.asked.ensures.value, c.asked-2.ensures.value) at c.list_windows.ensures.count; left = rw (c.bounds.ensures.value, c.bounds-2.ensures.value, c.asked.ensures.value, c.asked-2.ensures.value) at c.list_windows.ensures.left; kept = rw (c.bounds.ensures.value, c.bounds-2.ensures.value, c.asked.ensures.value, c.asked-2.ensures.value) at c.list_windows.ensures.kept; apart = rw (c.bounds.ensures.value, c.bounds-2.ensures.value, c.asked.ensures.value, c.asked-2.ensures.value) at c.list_windows.ensures.apart; finer = rw (c.bounds.ensures.value, c.bounds-2.ensures.value, c.asked.ensures.value, c.asked-2.ensures.value) at c.list_windows.ensures.finer }
