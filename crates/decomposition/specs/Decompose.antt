-- pbrt's `decompose`: a matrix m as translation t, rotation r and scale s, with m = t r s up to rounding; of a rigid move s is the identity.
-- A refusal stands beside them: 4 or 5 of an inverse, 5 where a polar round's matrix, the quaternion or the scale holds a value that isn't
-- finite, in working order; after it every number is +0. Definitions only.
use Rattle.std.specs.Prelude.{ℕ, Bool, true, false, ◌&&◌, cond, eqb, Result, Ok, Err}
use Rattle.matrix4x4.specs.float32.Operators.{one}
use Rattle.vector3.specs.declared.Vector3f.{Vector3f}
use Rattle.matrix4x4.specs.declared.Matrix4x4.{Matrix4x4}
use Rattle.matrix4x4.specs.Rows.{Rows, at, tabulate, positive_zero, Matrix4x4-from_rows, Matrix4x4-zero}
use Rattle.matrix4x4.specs.Mul.{Matrix4x4-mul}
use Rattle.matrix4x4.specs.IsFinite.{Matrix4x4-is_finite}
use Rattle.matrix_inverse.specs.Inverse.{Matrix4x4-inverse}
use Rattle.quaternion.specs.declared.Quaternion.{Quaternion}
use Rattle.quaternion.specs.IsFinite.{Quaternion-is_finite}
use Rattle.matrix_quaternion.specs.FromMatrix.{Quaternion-from_matrix}
use Rattle.refusal.specs.declared.Refusal.{Refusal}
use Rattle.refusal.specs.Number.{Refusal-number}
use Rattle.decomposition.specs.declared.Decomposition.{Decomposition}
use Rattle.decomposition.specs.Polar.{Polar, refused, unsettled, settled, polar}

-- A decomposition beside a refusal's number, 0 for none.
pub record DecompositionAnswer : Type 0 where
  pub t : Vector3f
  pub r : Quaternion
  pub s : Matrix4x4
  pub refusal : ℕ

abbrev pub Decomposition-accepted : Decomposition → DecompositionAnswer
Decomposition-accepted d = record { t = d.t; r = d.r; s = d.s; refusal = 0 }

abbrev pub Decomposition-refused : ℕ → DecompositionAnswer
Decomposition-refused n =
    let o : Vector3f = record { x = positive_zero; y = positive_zero; z = positive_zero } in
    record { t = o; r = record { v = o; w = positive_zero }; s = Matrix4x4-zero; refusal = n }

abbrev pub DecompositionAnswer-of_result : Result Decomposition Refusal → DecompositionAnswer
DecompositionAnswer-of_result (Ok d) = Decomposition-accepted d
DecompositionAnswer-of_result (Err r) = Decomposition-refused (Refusal-number r)

-- `t.x = m.m[0][3]`, and so on
abbrev pub translation_of : Rows → Vector3f
translation_of m = record { x = at m 0 3; y = at m 1 3; z = at m 2 3 }

-- document 01, Refusals, 5: a finished "matrix, quaternion .. holds a value that isn't finite"; the scale with all 16 entries
unfoldable pub Decomposition-judged : Rows → Quaternion → Rows → DecompositionAnswer
Decomposition-judged m r s =
    cond (Quaternion-is_finite r && Matrix4x4-is_finite s)
    (record { t = translation_of m; r = r; s = Matrix4x4-from_rows s; refusal = 0 })
    (Decomposition-refused 5)

-- `*s = Matrix4x4::mul(&Matrix4x4::inverse(&r), m);`; document 02, Rigid booms: "no S is worked out" for a rigid move, which has the identity in its place
unfoldable pub scale_by : Bool → Rows → Rows → Rows
scale_by true inverse m = tabulate (λ i. tabulate (λ j. cond (eqb i j) one positive_zero))
scale_by false inverse m = Matrix4x4-mul inverse m

-- `*rquat = Transform::from_matrix(&r).into();` and the scale, where `from_matrix` works the same inverse
unfoldable pub parts : Bool → Rows → Rows → DecompositionAnswer
parts rigid m r =
    let inverse = Matrix4x4-inverse r in
    cond (eqb inverse.refusal 0)
    (Decomposition-judged m (Quaternion-from_matrix r) (scale_by rigid inverse.m m))
    (Decomposition-refused inverse.refusal)

unfoldable pub finish : Bool → Rows → Polar → DecompositionAnswer
finish rigid m (refused n) = Decomposition-refused n
finish rigid m (unsettled r) = parts rigid m r
finish rigid m (settled r) = parts rigid m r

-- `AnimatedTransform::decompose`, for a move of either kind; pbrt's is not rigid
unfoldable pub Matrix4x4-decompose : Bool → Rows → DecompositionAnswer
Matrix4x4-decompose rigid m = finish rigid m (polar m)
