-- `meets` meets its contract: its three axes are the definition's.
use Rattle.bounds_overlap.specs.Meets.{Bounds3f-meets}
use Rattle.bounds_overlap.proofs.meets.Goals as goal

pub returns : goal.returns
unfolding Bounds3f-meets
returns c = record { value = rw (c.ranges_meet.ensures.value, c.ranges_meet-2.ensures.value, c.ranges_meet-3.ensures.value) }
