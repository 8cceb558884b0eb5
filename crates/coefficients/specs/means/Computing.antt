-- What has to unfold for the coefficients of given parts to compute, as one group: a case says `unfolding computing`.
use Rattle.std.specs.Float.Ieee.{add, sub, mul, neg, of_bits}
use Rattle.axis_derivative.specs.derivative_x.Terms.{c1x, c2x, c3x, c4x, c5x}
use Rattle.axis_derivative.specs.derivative_y.Terms.{c1y, c2y, c3y, c4y, c5y}
use Rattle.axis_derivative.specs.derivative_z.Terms.{c1z, c2z, c3z, c4z, c5z}
use Rattle.axis_derivative.specs.AxisDerivative.{column_terms, derivative_over}
use Rattle.axis_derivative.specs.IsFinite.{DerivativeTerm-is_finite, Derivative-is_finite}
use Rattle.coefficients.specs.Coefficients.{Coefficients-new}
use Rattle.coefficients.specs.IsFinite.{Coefficients-is_finite}

unfoldable pub computing : Unit {0}
unfolding add sub mul neg of_bits c1x c2x c3x c4x c5x c1y c2y c3y c4y c5y c1z c2z c3z c4z c5z column_terms derivative_over Coefficients-new DerivativeTerm-is_finite
    Derivative-is_finite Coefficients-is_finite
computing = tt
