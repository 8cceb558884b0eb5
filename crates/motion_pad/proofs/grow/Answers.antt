-- `grow` meets its contract: a refusal passes on, the answer's before the pad's.
use Rattle.motion_pad.specs.Grow.{BoundsAnswer-grow}
use Rattle.motion_pad.proofs.Tested.{pad-refused}
use Rattle.motion_pad.proofs.grow.Goals as goal

pub returns-in-Err : goal.returns-in-Err
returns-in-Err c = record { value = rw (c.in-Bounds.is, c.in-Err.is, c.number.ensures.value) (pad-refused _ c.in-Bounds.b) }

pub returns-in-Refused : goal.returns-in-Refused
unfolding BoundsAnswer-grow
returns-in-Refused c = record { value = rw c.in-Refused.is }
