-- `column` meets its contract: each call is a formula.
use Rattle.axis_derivative.specs.AxisDerivative.{column_terms}
use Rattle.axis_derivative.proofs.YAxis.column.Goals as goal

pub returns : goal.returns
unfolding column_terms
returns c = record { value = rw (c.c5y.ensures.value, c.c4y.ensures.value, c.c3y.ensures.value, c.c2y.ensures.value, c.c1y.ensures.value) }
