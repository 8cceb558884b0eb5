-- `column` meets its contract: each call is a formula.
use Rattle.axis_derivative.specs.AxisDerivative.{column_terms}
use Rattle.axis_derivative.proofs.ZAxis.column.Goals as goal

pub returns : goal.returns
unfolding column_terms
returns c = record { value = rw (c.c5z.ensures.value, c.c4z.ensures.value, c.c3z.ensures.value, c.c2z.ensures.value, c.c1z.ensures.value) }
