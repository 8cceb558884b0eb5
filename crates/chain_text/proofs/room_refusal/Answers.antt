-- `room_refusal` is `room_refusal`, test by test.
use borrow.Author.Tests.{le-leb, lt-leb}
use Rattle.chain_text.proofs.room_refusal.Goals as goal

pub returns-then-length-room : goal.returns-then-length-room
returns-then-length-room c = rw (le-leb _ _ c.if-length-room.true)

pub returns-else-length-room : goal.returns-else-length-room
returns-else-length-room c = rw (lt-leb _ _ c.if-length-room.false)
