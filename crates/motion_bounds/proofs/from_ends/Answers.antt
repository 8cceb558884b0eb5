-- `from_ends` meets its contract: each arm is its case of the definition.
use Rattle.motion_bounds.specs.MotionBounds.{BoundsAnswer-from_ends}
use borrow.Author.Rules.{rules}
use Rattle.motion_bounds.proofs.from_ends.Goals as goal

pub returns-in-Ok-end : goal.returns-in-Ok-end
unfolding BoundsAnswer-from_ends
returns-in-Ok-end c = record { value = rw (c.in-Ok.is, c.in-Ok-end.is, c.from_points.ensures.value) }

pub returns-in-Err-end : goal.returns-in-Err-end
unfolding BoundsAnswer-from_ends
returns-in-Err-end c = record { value = rw (c.in-Ok.is, c.in-Err-end.is, c.number.ensures.value) }

pub returns-in-Err : goal.returns-in-Err
unfolding BoundsAnswer-from_ends
returns-in-Err c = record { value = rw (c.in-Err.is, c.number-in-Err.ensures.value) }
