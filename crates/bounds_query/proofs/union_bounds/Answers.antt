-- `union_bounds` meets its contract: each arm is its case of the definition.
use Rattle.bounds_query.specs.Query.{BoundsAnswer-union_bounds}
use Rattle.bounds_query.proofs.union_bounds.Goals as goal

pub returns-in-Bounds-s : goal.returns-in-Bounds-s
unfolding BoundsAnswer-union_bounds
returns-in-Bounds-s c = record { value = rw (c.in-Bounds.is, c.in-Bounds-s.is, c.union_bounds.ensures.value) }

pub returns-in-Refused-s : goal.returns-in-Refused-s
unfolding BoundsAnswer-union_bounds
returns-in-Refused-s c = record { value = rw (c.in-Bounds.is, c.in-Refused-s.is) }

pub returns-in-Refused : goal.returns-in-Refused
unfolding BoundsAnswer-union_bounds
returns-in-Refused c = record { value = rw c.in-Refused.is }
