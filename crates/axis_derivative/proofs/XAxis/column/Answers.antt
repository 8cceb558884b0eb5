-- `column` meets its contract: each call is a formula.
use Rattle.axis_derivative.specs.AxisDerivative.{column_terms}
use Rattle.axis_derivative.proofs.XAxis.column.Goals as goal

pub returns : goal.returns
unfolding column_terms
returns c = record { value = rw (c.c5x.ensures.value, c.c4x.ensures.value, c.c3x.ensures.value, c.c2x.ensures.value, c.c1x.ensures.value) }
