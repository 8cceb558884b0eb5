-- `MotionDerivative::sin_cos` meets its contract: its calls in turn, from the last to the first.
use Rattle.motion_derivative.proofs.MotionDerivative.sin_cos.Goals as goal

pub returns : goal.returns
returns c = record { value = rw (← c.from.ensures, ← c.mul.ensures) c.sin_cos.ensures.value }
