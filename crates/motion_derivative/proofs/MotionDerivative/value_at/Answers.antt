-- `MotionDerivative::value_at` meets its contract: the definition's own formula.
use mathlib.Core.Path.{refl}
use Rattle.motion_derivative.specs.Derivative.{MotionDerivative-value_at}
use Rattle.motion_derivative.proofs.MotionDerivative.value_at.Goals as goal

pub returns : goal.returns
unfolding MotionDerivative-value_at
returns c = record { value = refl }
