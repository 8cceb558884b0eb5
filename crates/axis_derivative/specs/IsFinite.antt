-- Whether every number of a derivative is finite. Definitions only.
use Rattle.std.specs.Prelude.{Bool, ◌&&◌}
use Rattle.std.specs.Float.Ieee.Scale.{finite}
use Rattle.axis_derivative.specs.declared.DerivativeTerm.{DerivativeTerm}
use Rattle.axis_derivative.specs.declared.Derivative.{Derivative}

unfoldable pub DerivativeTerm-is_finite : DerivativeTerm → Bool
DerivativeTerm-is_finite k = finite k.kc && finite k.kx && finite k.ky && finite k.kz

unfoldable pub Derivative-is_finite : Derivative → Bool
Derivative-is_finite d =
    DerivativeTerm-is_finite d.c1 && DerivativeTerm-is_finite d.c2 && DerivativeTerm-is_finite d.c3
    && DerivativeTerm-is_finite d.c4 && DerivativeTerm-is_finite d.c5
