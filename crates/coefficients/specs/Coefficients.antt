-- pbrt's c1 to c5 on the three axes. Definitions only.
use Rattle.std.specs.Prelude.{Float}
use Rattle.std.specs.Float.Ieee.{neg}
use Rattle.matrix4x4.specs.float32.Operators.{◌⊕◌}
use Rattle.vector3.specs.declared.Vector3f.{Vector3f}
use Rattle.quaternion.specs.declared.Quaternion.{Quaternion}
use Rattle.matrix4x4.specs.Rows.{Rows, positive_zero}
use Rattle.matrix4x4.specs.Transpose.{column}
use Rattle.axis_derivative.specs.derivative_x.Terms.{c1x, c2x, c3x, c4x, c5x}
use Rattle.axis_derivative.specs.derivative_y.Terms.{c1y, c2y, c3y, c4y, c5y}
use Rattle.axis_derivative.specs.derivative_z.Terms.{c1z, c2z, c3z, c4z, c5z}
use Rattle.axis_derivative.specs.declared.DerivativeTerm.{DerivativeTerm}
use Rattle.axis_derivative.specs.declared.Derivative.{Derivative}
use Rattle.axis_derivative.specs.AxisDerivative.{derivative}
use Rattle.coefficients.specs.declared.Coefficients.{Coefficients}

-- `res.c1[i]` to `res.c5[i]` for the axes x, y and z, with kc of c1 the difference of the translations
unfoldable pub Coefficients-new : Vector3f → Vector3f → Quaternion → Quaternion → Float → Rows → Rows → Coefficients
Coefficients-new t0 t1 q0 qperp θ s0 s1 = record {
  x = derivative c1x c2x c3x c4x c5x q0 qperp θ (column s0) (column s1) (neg t0.x ⊕ t1.x);
  y = derivative c1y c2y c3y c4y c5y q0 qperp θ (column s0) (column s1) (neg t0.y ⊕ t1.y);
  z = derivative c1z c2z c3z c4z c5z q0 qperp θ (column s0) (column s1) (neg t0.z ⊕ t1.z);
}

-- document 01, Move: a move without rotation keeps `DerivativeTerm::default()`, every coefficient +0
abbrev pub Coefficients-zero : Coefficients
Coefficients-zero =
    let k : DerivativeTerm = record { kc = positive_zero; kx = positive_zero; ky = positive_zero; kz = positive_zero } in
    let d : Derivative = record { c1 = k; c2 = k; c3 = k; c4 = k; c5 = k } in
    record { x = d; y = d; z = d }
