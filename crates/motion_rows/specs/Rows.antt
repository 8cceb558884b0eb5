-- A move as 45 rows of four floats, `AnimatedTransform-to_rows`, and the move in 45 rows, `AnimatedTransform-from_rows`, for all rows. Definitions only.
-- The rows in order: the start's matrix and inverse, the end's matrix and inverse (0 to 15); the translations, each with its time (16,
-- 17); the rotations (18, 19); the scale matrices (20 to 27); c1 to c5 of x, of y and of z (28 to 42); the two yes or no, 1 for yes,
-- with the dot product of the rotations and the angle between them (43); the two pads, whether it is rigid, 1 for yes, and +0 (44).
use Rattle.std.specs.Prelude.{ℕ, ◌+◌, Bool, cond, [], ◌∷◌, ◌++◌, eqb, Float}
use Rattle.std.specs.Float.Ieee.{eq}
use Rattle.bounds3.specs.float32.Operators.{one}
use Rattle.matrix4x4.specs.declared.Matrix4x4.{Matrix4x4}
use Rattle.matrix4x4.specs.Rows.{Row, Rows, row, at, positive_zero, Matrix4x4-to_rows}
use Rattle.vector3.specs.declared.Vector3f.{Vector3f}
use Rattle.quaternion.specs.declared.Quaternion.{Quaternion}
use Rattle.transform.specs.declared.Transform.{Transform}
use Rattle.lent_arrays.specs.Arrays.{transform_rows}
use Rattle.axis_derivative.specs.declared.DerivativeTerm.{DerivativeTerm}
use Rattle.axis_derivative.specs.declared.Derivative.{Derivative}
use Rattle.coefficients.specs.declared.Coefficients.{Coefficients}
use Rattle.pose_steps.specs.declared.PoseConstants.{PoseConstants}
use Rattle.animated_transform.specs.declared.AnimatedTransform.{AnimatedTransform}
use Rattle.animated_transform.specs.New.{AnimatedTransformAnswer}
use Rattle.motion_point.specs.TransformPoint.{AnimatedTransform-constants}

-- ---- to rows
abbrev pub flag : Bool → Float
flag b = cond b one positive_zero

abbrev pub vector_row : Vector3f → Float → Row
vector_row v w = v.x ∷ v.y ∷ v.z ∷ w ∷ []

abbrev pub quaternion_row : Quaternion → Row
quaternion_row q = vector_row q.v q.w

abbrev pub term_row : DerivativeTerm → Row
term_row k = k.kc ∷ k.kx ∷ k.ky ∷ k.kz ∷ []

abbrev pub derivative_rows : Derivative → Rows
derivative_rows d = term_row d.c1 ∷ term_row d.c2 ∷ term_row d.c3 ∷ term_row d.c4 ∷ term_row d.c5 ∷ []

unfoldable pub constants_row : AnimatedTransform → Row
constants_row m =
    let a = AnimatedTransform-constants m in
    flag m.actually_animated ∷ flag m.has_rotation ∷ a.cos_theta ∷ a.theta ∷ []

abbrev pub pads_row : AnimatedTransform → Row
pads_row m = m.pad0 ∷ m.pad1 ∷ flag m.rigid ∷ positive_zero ∷ []

unfoldable pub fields_rows : AnimatedTransform → Row → Row → Rows
fields_rows m constants pads =
    let c = m.coefficients in
    transform_rows m.start_transform ++ transform_rows m.end_transform
    ++ (vector_row m.t0 m.start_time ∷ vector_row m.t1 m.end_time ∷ quaternion_row m.r0 ∷ quaternion_row m.r1 ∷ [])
    ++ Matrix4x4-to_rows m.s0 ++ Matrix4x4-to_rows m.s1
    ++ derivative_rows c.x ++ derivative_rows c.y ++ derivative_rows c.z
    ++ (constants ∷ pads ∷ [])

unfoldable pub AnimatedTransform-to_rows : AnimatedTransform → Rows
AnimatedTransform-to_rows m = fields_rows m (constants_row m) (pads_row m)

-- a lent array after building: `old` is what stood in it, and stands in it after a refusal
unfoldable pub AnimatedTransformAnswer-left : AnimatedTransformAnswer → Rows → Rows
AnimatedTransformAnswer-left a old = cond (eqb a.refusal 0) (AnimatedTransform-to_rows a.value) old

-- ---- from rows
abbrev pub vector_at : Rows → ℕ → Vector3f
vector_at rows i = record { x = at rows i 0; y = at rows i 1; z = at rows i 2 }

abbrev pub quaternion_at : Rows → ℕ → Quaternion
quaternion_at rows i = record { v = record { x = at rows i 0; y = at rows i 1; z = at rows i 2 }; w = at rows i 3 }

abbrev pub matrix_at : Rows → ℕ → Matrix4x4
matrix_at rows i = record { r0 = row rows i; r1 = row rows (i + 1); r2 = row rows (i + 2); r3 = row rows (i + 3) }

unfoldable pub transform_at : Rows → ℕ → Transform
transform_at rows i = record { m = matrix_at rows i; m_inv = matrix_at rows (i + 4) }

abbrev pub term_at : Rows → ℕ → DerivativeTerm
term_at rows i = record { kc = at rows i 0; kx = at rows i 1; ky = at rows i 2; kz = at rows i 3 }

unfoldable pub derivative_at : Rows → ℕ → Derivative
derivative_at rows i = record { c1 = term_at rows i; c2 = term_at rows (i + 1); c3 = term_at rows (i + 2); c4 = term_at rows (i + 3); c5 = term_at rows (i + 4) }

unfoldable pub coefficients_at : Rows → ℕ → Coefficients
coefficients_at rows i = record { x = derivative_at rows i; y = derivative_at rows (i + 5); z = derivative_at rows (i + 10) }

unfoldable pub AnimatedTransform-from_rows : Rows → AnimatedTransform
AnimatedTransform-from_rows rows =
    record {
      start_transform = transform_at rows 0;
      end_transform = transform_at rows 8;
      start_time = at rows 16 3;
      end_time = at rows 17 3;
      actually_animated = eq (at rows 43 0) one;
      has_rotation = eq (at rows 43 1) one;
      t0 = vector_at rows 16;
      t1 = vector_at rows 17;
      r0 = quaternion_at rows 18;
      r1 = quaternion_at rows 19;
      s0 = matrix_at rows 20;
      s1 = matrix_at rows 24;
      coefficients = coefficients_at rows 28;
      pad0 = at rows 44 0;
      pad1 = at rows 44 1;
      rigid = eq (at rows 44 2) one;
    }

-- the constants of the pose between, which stand beside the move
unfoldable pub PoseConstants-from_rows : Rows → PoseConstants
PoseConstants-from_rows rows =
    record {
      t0 = vector_at rows 16;
      t1 = vector_at rows 17;
      r0 = quaternion_at rows 18;
      r1 = quaternion_at rows 19;
      cos_theta = at rows 43 2;
      theta = at rows 43 3;
      rigid = eq (at rows 44 2) one;
    }
