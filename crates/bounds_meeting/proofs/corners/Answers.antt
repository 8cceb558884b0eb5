-- `corners` meets its contract: the box that was answered, or +0 throughout.
use Rattle.bounds_meeting.proofs.corners.Goals as goal

pub returns-in-Refused : goal.returns-in-Refused
returns-in-Refused c = record { value = rw (c.in-Refused.is, c.from_point.ensures.value) }
