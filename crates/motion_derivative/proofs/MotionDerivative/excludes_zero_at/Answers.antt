-- `MotionDerivative::excludes_zero_at` meets its contract: the range is the definition's.
use Rattle.motion_derivative.specs.Derivative.{MotionDerivative-excludes_zero_at}
use Rattle.motion_derivative.proofs.MotionDerivative.excludes_zero_at.Goals as goal

pub returns : goal.returns
unfolding MotionDerivative-excludes_zero_at
returns c = record { value = rw c.range_at-range.ensures.value }
