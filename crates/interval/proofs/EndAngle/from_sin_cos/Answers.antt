-- `EndAngle::from_sin_cos` meets its contract: u is what its call gives.
use Rattle.interval.proofs.EndAngle.from_sin_cos.Goals as goal

pub returns : goal.returns
returns c = record { value = rw c.angle_units.ensures.value }
