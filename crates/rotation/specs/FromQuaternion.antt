-- pbrt's `From<Quaternion> for Transform`: the matrix is worked out once; transposed it is the matrix half, as it stands the inverse half. Definitions only.
use Rattle.std.specs.Prelude.{[], ◌∷◌}
use Rattle.matrix4x4.specs.float32.Operators.{◌⊕◌, ◌⊖◌, ◌⊗◌, one, two}
use Rattle.matrix4x4.specs.Rows.{Rows, positive_zero}
use Rattle.matrix4x4.specs.Transpose.{Matrix4x4-transpose}
use Rattle.transform.specs.declared.Transform.{Transform}
use Rattle.transform.specs.Transform.{Transform-from_matrices}
use Rattle.quaternion.specs.declared.Quaternion.{Quaternion}

-- `m`, with what `Matrix4x4::default()` leaves in its last row and column
unfoldable pub inverse_rotation : Quaternion → Rows
inverse_rotation q =
    let xx = q.v.x ⊗ q.v.x in
    let yy = q.v.y ⊗ q.v.y in
    let zz = q.v.z ⊗ q.v.z in
    let xy = q.v.x ⊗ q.v.y in
    let xz = q.v.x ⊗ q.v.z in
    let yz = q.v.y ⊗ q.v.z in
    let wx = q.v.x ⊗ q.w in
    let wy = q.v.y ⊗ q.w in
    let wz = q.v.z ⊗ q.w in
    let o = positive_zero in
    (one ⊖ two ⊗ (yy ⊕ zz) ∷ two ⊗ (xy ⊕ wz) ∷ two ⊗ (xz ⊖ wy) ∷ o ∷ [])
    ∷ (two ⊗ (xy ⊖ wz) ∷ one ⊖ two ⊗ (xx ⊕ zz) ∷ two ⊗ (yz ⊕ wx) ∷ o ∷ [])
    ∷ (two ⊗ (xz ⊕ wy) ∷ two ⊗ (yz ⊖ wx) ∷ one ⊖ two ⊗ (xx ⊕ yy) ∷ o ∷ [])
    ∷ (o ∷ o ∷ o ∷ one ∷ [])
    ∷ []

-- `Transform::from_matrices(&Matrix4x4::transpose(&m), &m)`
unfoldable pub Transform-from_quaternion : Quaternion → Transform
Transform-from_quaternion q = let m = inverse_rotation q in Transform-from_matrices (Matrix4x4-transpose m) m
