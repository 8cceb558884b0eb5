-- `abs` meets its contract: its bits are those of x without the sign's (`abs-bits`).
use Rattle.float32.proofs.Tests.{number-equal, abs-bits, abs-bits-number, abs-nan}
use Rattle.float32.proofs.abs.Goals as goal

pub float_to_bits-result : goal.float_to_bits-result
float_to_bits-result c = number-equal c.args.x c.if-x.true

pub float_from_bits-result : goal.float_from_bits-result
float_from_bits-result c = abs-bits-number c.args.x c.well_formed.0.1 c.if-x.true

pub returns-then-x : goal.returns-then-x
returns-then-x c = record { value = abs-bits c.args.x c.well_formed.0.1 c.if-x.true }

pub returns : goal.returns
returns c = record { value = abs-nan c.args.x c.if-x.false }
