-- Whether every number of a coefficient set is finite. Definitions only.
use Rattle.std.specs.Prelude.{Bool, ◌&&◌}
use Rattle.axis_derivative.specs.IsFinite.{Derivative-is_finite}
use Rattle.coefficients.specs.declared.Coefficients.{Coefficients}

-- document 01, Refusals, 5: a finished "coefficient set .. holds a value that isn't finite"
unfoldable pub Coefficients-is_finite : Coefficients → Bool
Coefficients-is_finite c = Derivative-is_finite c.x && Derivative-is_finite c.y && Derivative-is_finite c.z
