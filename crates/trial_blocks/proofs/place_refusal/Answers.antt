-- `place_refusal` meets its contract: two tests choose.
use borrow.Author.Tests.{le-leb, lt-leb, lt-ltb, le-ltb}
use Rattle.trial_blocks.proofs.place_refusal.Goals as goal

pub returns-then-place-poses : goal.returns-then-place-poses
returns-then-place-poses c = record { value = rw (le-leb _ _ c.if-place-poses.true) }

pub returns-then-poses-gt32 : goal.returns-then-poses-gt32
returns-then-poses-gt32 c = record { value = rw (lt-leb _ _ c.if-place-poses.false, lt-ltb 32 _ c.if-poses-gt32.true) }

pub returns : goal.returns
returns c = record { value = rw (lt-leb _ _ c.if-place-poses.false, le-ltb 32 _ c.if-poses-gt32.false) }
