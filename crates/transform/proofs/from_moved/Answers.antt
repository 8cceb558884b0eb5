-- `from_moved` meets its contract: each arm is its case of the definition.
use Rattle.transform.specs.TransformBounds.{BoundsAnswer-from_moved}
use Rattle.transform.proofs.from_moved.Goals as goal

pub returns-in-Ok : goal.returns-in-Ok
unfolding BoundsAnswer-from_moved
returns-in-Ok c = record { value = rw (c.in-Ok.is, c.from_point.ensures.value) }

pub returns-in-Err : goal.returns-in-Err
unfolding BoundsAnswer-from_moved
returns-in-Err c = record { value = rw (c.in-Err.is, c.number.ensures.value) }
