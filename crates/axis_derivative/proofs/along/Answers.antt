-- `along` meets its contract: each call of the axis is a column.
use Rattle.axis_derivative.specs.AxisDerivative.{derivative_over}
use Rattle.axis_derivative.proofs.along.Goals as goal

pub returns : goal.returns
unfolding derivative_over
returns g c = record { value = rw (c.from_columns.ensures.value, c.column-z.ensures.value, c.column-y.ensures.value, c.column-x.ensures.value) }
