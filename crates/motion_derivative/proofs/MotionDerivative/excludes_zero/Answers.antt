-- `MotionDerivative::excludes_zero` meets its contract: the sine and the cosine of the angles are the definition's.
use Rattle.motion_derivative.specs.Derivative.{MotionDerivative-excludes_zero}
use Rattle.motion_derivative.proofs.MotionDerivative.excludes_zero.Goals as goal

pub returns : goal.returns
unfolding MotionDerivative-excludes_zero
returns c = record { value = rw (c.excludes_zero_at.ensures.value, c.sin_cos.ensures.value.0, c.sin_cos.ensures.value.1) }
