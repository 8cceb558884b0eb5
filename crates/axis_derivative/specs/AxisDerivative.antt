-- The derivative along one axis: `AnimatedTransform::new` writes each formula three times, once for each column of the scale matrices;
-- here each stands once, over the column. Definitions only.
use Rattle.std.specs.Prelude.{ℕ, Float}
use Rattle.quaternion.specs.declared.Quaternion.{Quaternion}
use Rattle.matrix4x4.specs.Rows.{Row, col, positive_zero}
use Rattle.axis_derivative.specs.declared.ColumnTerms.{ColumnTerms}
use Rattle.axis_derivative.specs.declared.Derivative.{Derivative}

-- a formula over two quaternions, an angle and a column of each scale matrix
abbrev pub Formula : Type 0
Formula = Float → Float → Float → Float → Float → Float → Float → Float → Float → Float → Float → Float → Float → Float → Float → Float

-- its value at columns a and b
abbrev pub at_columns : Formula → Quaternion → Quaternion → Float → Row → Row → Float
at_columns c q0 qperp θ a b =
    c q0.v.x q0.v.y q0.v.z q0.w qperp.v.x qperp.v.y qperp.v.z
    qperp.w θ (col a 0) (col a 1) (col a 2) (col b 0) (col b 1) (col b 2)

-- `DerivativeTerm::new(kc, ..)` for c1, `DerivativeTerm::new(0.0, ..)` for c2 to c5, from the formulas at the columns x, y and z
abbrev pub from_columns : Float → ColumnTerms → ColumnTerms → ColumnTerms → Derivative
from_columns kc x y z = record {
  c1 = record { kc = kc; kx = x.c1; ky = y.c1; kz = z.c1 };
  c2 = record { kc = positive_zero; kx = x.c2; ky = y.c2; kz = z.c2 };
  c3 = record { kc = positive_zero; kx = x.c3; ky = y.c3; kz = z.c3 };
  c4 = record { kc = positive_zero; kx = x.c4; ky = y.c4; kz = z.c4 };
  c5 = record { kc = positive_zero; kx = x.c5; ky = y.c5; kz = z.c5 };
}

-- an axis's formulas at two quaternions, an angle and a column of each scale matrix
abbrev pub AxisTerms : Type 0
AxisTerms = Quaternion → Quaternion → Float → Row → Row → ColumnTerms

-- the derivative along that axis; a and b give the columns of the scale matrices, kc is the constant of c1
unfoldable pub derivative_over : AxisTerms → Quaternion → Quaternion → Float → (ℕ → Row) → (ℕ → Row) → Float → Derivative
derivative_over terms q0 qperp θ a b kc =
    let k : ℕ → ColumnTerms = λ j. terms q0 qperp θ (a j) (b j) in
    from_columns kc (k 0) (k 1) (k 2)

module _ (c1 c2 c3 c4 c5 : Formula) where
  -- the five formulas of an axis at columns a and b
  unfoldable pub column_terms : AxisTerms
  column_terms q0 qperp θ a b = record {
    c1 = at_columns c1 q0 qperp θ a b;
    c2 = at_columns c2 q0 qperp θ a b;
    c3 = at_columns c3 q0 qperp θ a b;
    c4 = at_columns c4 q0 qperp θ a b;
    c5 = at_columns c5 q0 qperp θ a b;
  }

  -- the derivative along the axis of five formulas
  abbrev pub derivative : Quaternion → Quaternion → Float → (ℕ → Row) → (ℕ → Row) → Float → Derivative
  derivative = derivative_over column_terms
