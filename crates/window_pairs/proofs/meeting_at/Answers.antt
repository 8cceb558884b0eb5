-- `meeting_at` meets its contract: the two covers of the window, and whether they meet.
use borrow.Author.Rules.{rules}
use Rattle.window_pairs.proofs.meeting_at.Goals as goal

pub returns : goal.returns
returns c = record { value = rw (c.meet.ensures.value, c.cover-second.ensures.value, c.cover-first.ensures.value) }
