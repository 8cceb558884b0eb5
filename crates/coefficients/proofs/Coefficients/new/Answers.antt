-- `new` meets its contract: the rows of a transposed scale matrix are its columns.
use Rattle.matrix4x4.specs.Transpose.{Matrix4x4-transpose}
use Rattle.axis_derivative.specs.AxisDerivative.{derivative_over}
use Rattle.coefficients.specs.Coefficients.{Coefficients-new}
use Rattle.coefficients.proofs.Coefficients.new.Goals as goal

pub returns : goal.returns
unfolding Coefficients-new derivative_over Matrix4x4-transpose
returns c = record { value = rw (c.along-z.ensures.value, c.along-y.ensures.value, c.along-x.ensures.value, c.transpose-b.ensures.value, c.transpose-a.ensures.value) }
