-- pbrt's Transform as a pair of matrices: made from one or two, of a translation, a product, and its comparison. Definitions only.
-- Each half is worked for itself: m_inv is whatever the operation's own line gives, and nothing asks that it is the inverse of m.
use Rattle.std.specs.Prelude.{ℕ, Bool, ◌&&◌, cond, [], ◌∷◌, eqb, Float, Result, Ok, Err}
use Rattle.std.specs.Float.Ieee.{neg}
use Rattle.bounds3.specs.float32.Operators.{one}
use Rattle.vector3.specs.declared.Vector3f.{Vector3f}
use Rattle.matrix4x4.specs.declared.Matrix4x4.{Matrix4x4}
use Rattle.matrix4x4.specs.Rows.{Rows, positive_zero, Matrix4x4-to_rows, Matrix4x4-from_rows, Matrix4x4-zero}
use Rattle.matrix4x4.specs.Mul.{Matrix4x4-mul}
use Rattle.matrix4x4.specs.Eq.{Matrix4x4-eq}
use Rattle.matrix_inverse.specs.Inverse.{Matrix4x4-inverse}
use Rattle.transform.specs.declared.Transform.{Transform}
use Rattle.refusal.specs.declared.Refusal.{Refusal}
use Rattle.refusal.specs.Number.{Refusal-number}

-- `Transform::from_matrices`
abbrev pub Transform-from_matrices : Rows → Rows → Transform
Transform-from_matrices m m⁻¹ = record { m = Matrix4x4-from_rows m; m_inv = Matrix4x4-from_rows m⁻¹ }

-- A transform beside a refusal's number, 0 for none.
pub record TransformAnswer : Type 0 where
  pub transform : Transform
  pub refusal : ℕ

-- A transform that was refused: document 01's number, and every entry +0.
abbrev pub TransformAnswer-refused : ℕ → TransformAnswer
TransformAnswer-refused n =
    let z : Matrix4x4 = Matrix4x4-zero in
    record { transform = record { m = z; m_inv = z }; refusal = n }

abbrev pub TransformAnswer-of_result : Result Transform Refusal → TransformAnswer
TransformAnswer-of_result (Ok t) = record { transform = t; refusal = 0 }
TransformAnswer-of_result (Err r) = TransformAnswer-refused (Refusal-number r)

-- `Transform::from_matrix`, with the inverse's number handed on
unfoldable pub Transform-from_matrix : Rows → TransformAnswer
Transform-from_matrix m =
    let inverse = Matrix4x4-inverse m in
    cond (eqb inverse.refusal 0)
    (record { transform = record { m = Matrix4x4-from_rows m; m_inv = Matrix4x4-from_rows inverse.m }; refusal = 0 })
    (TransformAnswer-refused inverse.refusal)

-- The matrix that adds (x, y, z) to a point.
abbrev pub translation : Float → Float → Float → Matrix4x4
translation x y z =
    let o = positive_zero in
    record {
      r0 = one ∷ o ∷ o ∷ x ∷ [];
      r1 = o ∷ one ∷ o ∷ y ∷ [];
      r2 = o ∷ o ∷ one ∷ z ∷ [];
      r3 = o ∷ o ∷ o ∷ one ∷ [];
    }

-- `Transform::translate`
abbrev pub Transform-translate : Vector3f → Transform
Transform-translate d = record { m = translation d.x d.y d.z; m_inv = translation (neg d.x) (neg d.y) (neg d.z) }

-- `Mul for Transform`
unfoldable pub Transform-mul : Transform → Transform → Transform
Transform-mul a b =
    Transform-from_matrices
    (Matrix4x4-mul (Matrix4x4-to_rows a.m) (Matrix4x4-to_rows b.m))
    (Matrix4x4-mul (Matrix4x4-to_rows b.m_inv) (Matrix4x4-to_rows a.m_inv))

-- `PartialEq for Transform`: both halves are equal by the comparison of matrices
unfoldable pub Transform-eq : Transform → Transform → Bool
Transform-eq a b =
    Matrix4x4-eq (Matrix4x4-to_rows a.m) (Matrix4x4-to_rows b.m)
    && Matrix4x4-eq (Matrix4x4-to_rows a.m_inv) (Matrix4x4-to_rows b.m_inv)
