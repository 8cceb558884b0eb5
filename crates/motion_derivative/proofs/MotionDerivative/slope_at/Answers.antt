-- `MotionDerivative::slope_at` meets its contract: the definition's own formula.
use mathlib.Core.Path.{refl}
use Rattle.motion_derivative.specs.Derivative.{MotionDerivative-slope_at}
use Rattle.motion_derivative.proofs.MotionDerivative.slope_at.Goals as goal

pub returns : goal.returns
unfolding MotionDerivative-slope_at
returns c = record { value = refl }
