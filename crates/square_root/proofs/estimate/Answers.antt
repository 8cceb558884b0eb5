-- Nothing is promised of the estimate: only that its start is no NaN.
use native.Mathlib.Omega.{arith}
use Rattle.square_root.proofs.Tests.{bits-number}
use Rattle.square_root.proofs.estimate.Goals as goal

pub float_to_bits-start : goal.float_to_bits-start
float_to_bits-start c = c.requires

pub float_from_bits-start : goal.float_from_bits-start
float_from_bits-start c = bits-number _ (omega arith)
