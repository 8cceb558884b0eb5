-- `after_line_feed`, test by test.
use borrow.Author.Tests.{lt-ltb, le-ltb}
use Rattle.motion_file.proofs.after_line_feed.Goals as goal

pub returns-then-end-size : goal.returns-then-end-size
returns-then-end-size c = rw (lt-ltb _ _ c.if-end-size.true)

pub returns-else-end-size : goal.returns-else-end-size
returns-else-end-size c = rw (le-ltb _ _ c.if-end-size.false)
