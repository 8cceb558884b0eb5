-- `positive_zeros` meets its contract: both corners, or the refusal.
use Rattle.bounds_query.specs.Zeros.{Bounds3f-positive_zeros, BoundsAnswer-positive_zeros}
use Rattle.bounds_query.proofs.positive_zeros.Goals as goal

pub returns-in-Bounds : goal.returns-in-Bounds
unfolding Bounds3f-positive_zeros BoundsAnswer-positive_zeros
returns-in-Bounds c = record { value = rw (c.in-Bounds.is, c.corner_zeros-p_min.ensures.value, c.corner_zeros-p_max.ensures.value) }

pub returns-in-Refused : goal.returns-in-Refused
unfolding BoundsAnswer-positive_zeros
returns-in-Refused c = record { value = rw c.in-Refused.is }
