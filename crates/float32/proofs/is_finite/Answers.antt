-- `is_finite` meets its contract: a float is finite where it lies strictly between the two infinities.
use lib.Ieee.{of_bits, neg, nan_bits}
use Rattle.float32.proofs.Tests.{finite-below, finite-beyond}
use Rattle.float32.proofs.is_finite.Goals as goal

pub float_from_bits-infinity : goal.float_from_bits-infinity
unfolding nan_bits
float_from_bits-infinity c = tt

pub returns-then-x-infinity : goal.returns-then-x-infinity
unfolding of_bits neg
returns-then-x-infinity c = record { value = finite-below c.args.x c.if-x-infinity.true }

pub returns : goal.returns
unfolding of_bits neg
returns c = record { value = finite-beyond c.args.x c.if-x-infinity.false }
