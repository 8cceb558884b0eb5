-- `start_pad` meets its contract: one test.
use Rattle.motion_pad.proofs.start_pad.Goals as goal

pub returns-then-animated : goal.returns-then-animated
returns-then-animated c = record { value = rw c.if-animated.true }

pub returns : goal.returns
returns c = record { value = rw (c.if-animated.false, c.max.ensures.value) }
