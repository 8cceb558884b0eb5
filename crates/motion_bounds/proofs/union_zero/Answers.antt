-- `union_zero` meets its contract: each arm is its case of `union_moved`.
use Rattle.transform.specs.TransformBounds.{BoundsAnswer-union_moved}
use Rattle.motion_bounds.specs.MotionBounds.{union_zero}
use borrow.Author.Rules.{rules}
use Rattle.motion_bounds.proofs.union_zero.Goals as goal

pub returns-in-Ok : goal.returns-in-Ok
unfolding union_zero BoundsAnswer-union_moved
returns-in-Ok c = record { value = rw (c.in-Bounds.is, ← c.point_at-q.ensures.value, c.in-Ok.is, c.union_point.ensures.value) }

pub returns-in-Err : goal.returns-in-Err
unfolding union_zero BoundsAnswer-union_moved
returns-in-Err c = record { value = rw (c.in-Bounds.is, ← c.point_at-q.ensures.value, c.in-Err.is, c.number.ensures.value) }

pub returns-in-Refused : goal.returns-in-Refused
unfolding union_zero BoundsAnswer-union_moved
returns-in-Refused c = record { value = rw c.in-Refused.is }
