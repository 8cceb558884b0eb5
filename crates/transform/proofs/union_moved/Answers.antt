-- `union_moved` meets its contract: each arm is its case of the definition.
use Rattle.transform.specs.TransformBounds.{BoundsAnswer-union_moved}
use Rattle.transform.proofs.union_moved.Goals as goal

pub returns-in-Ok : goal.returns-in-Ok
unfolding BoundsAnswer-union_moved
returns-in-Ok c = record { value = rw (c.in-Bounds.is, c.in-Ok.is, c.union_point.ensures.value) }

pub returns-in-Err : goal.returns-in-Err
unfolding BoundsAnswer-union_moved
returns-in-Err c = record { value = rw (c.in-Bounds.is, c.in-Err.is, c.number.ensures.value) }

pub returns-in-Refused : goal.returns-in-Refused
unfolding BoundsAnswer-union_moved
returns-in-Refused c = record { value = rw c.in-Refused.is }
