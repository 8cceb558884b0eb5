-- pbrt's `transform_vector`: a matrix times (x, y, z, 0), of a transform its matrix half. Definitions only.
use Rattle.std.specs.Prelude.{Float}
use Rattle.bounds3.specs.float32.Operators.{◌⊕◌, ◌⊗◌}
use Rattle.vector3.specs.declared.Vector3f.{Vector3f}
use Rattle.matrix4x4.specs.Rows.{Row, Rows, row, col, Matrix4x4-to_rows}
use Rattle.transform.specs.declared.Transform.{Transform}

-- A row times (x, y, z, 0).
abbrev pub mul_vector : Row → Vector3f → Float
mul_vector r v = v.x ⊗ col r 0 ⊕ v.y ⊗ col r 1 ⊕ v.z ⊗ col r 2

-- The matrix times (x, y, z, 0).
unfoldable pub moved_vector : Rows → Vector3f → Vector3f
moved_vector m v = record { x = mul_vector (row m 0) v; y = mul_vector (row m 1) v; z = mul_vector (row m 2) v }

-- `Transform::transform_vector`
abbrev pub Transform-transform_vector : Transform → Vector3f → Vector3f
Transform-transform_vector t v = moved_vector (Matrix4x4-to_rows t.m) v
