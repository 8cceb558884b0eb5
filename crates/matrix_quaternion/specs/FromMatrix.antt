-- pbrt's `From<Transform> for Quaternion`, which reads only the matrix half. Definitions only.
-- A trace that isn't above zero, a NaN's among them, goes by the largest entry of the diagonal.
use Rattle.std.specs.Prelude.{ℕ, cond, [], ◌∷◌, get_or, set, Float}
use Rattle.std.specs.Float.{nan, binary32}
use Rattle.std.specs.Float.Ieee.{lt, ne}
use Rattle.vector3.specs.float32.Operators.{◌⊕◌, ◌⊖◌, ◌⊗◌, ◌⊘◌, one, two, half}
use Rattle.square_root.specs.SquareRoot.{sqrt}
use Rattle.transform.specs.matrix4x4.Rows.{Rows, at, positive_zero, Matrix4x4-to_rows}
use Rattle.transform.specs.declared.Transform.{Transform}
use Rattle.quaternion.specs.declared.Quaternion.{Quaternion}

-- `trace > 0.0`: w from the trace, v from the differences across the diagonal
unfoldable pub from_trace : Rows → Float → Quaternion
from_trace m trace =
    let s = sqrt binary32 (trace ⊕ one) in
    let r = half ⊘ s in
    record {
      v = record { x = (at m 2 1 ⊖ at m 1 2) ⊗ r; y = (at m 0 2 ⊖ at m 2 0) ⊗ r; z = (at m 1 0 ⊖ at m 0 1) ⊗ r };
      w = s ⊘ two;
    }

-- `i`: the axis of the largest entry on the diagonal, the first of equals
unfoldable pub largest : Rows → ℕ
largest m =
    let i : ℕ = cond (lt (at m 0 0) (at m 1 1)) 1 0 in
    cond (lt (at m i i) (at m 2 2)) 2 i

-- `nxt`
abbrev pub nxt : ℕ → ℕ
nxt i = get_or (1 ∷ 2 ∷ 0 ∷ []) i 0

-- `if s != 0.0 { s = 0.5 / s; }`
unfoldable pub half_over : Float → Float
half_over s = cond (ne s positive_zero) (half ⊘ s) s

-- the component on axis i from the diagonal, the others from the sums across it, w from a difference
unfoldable pub from_largest : Rows → ℕ → ℕ → ℕ → Quaternion
from_largest m i j k =
    let s = sqrt binary32 ((at m i i ⊖ (at m j j ⊕ at m k k)) ⊕ one) in
    let r = half_over s in
    let o = positive_zero in
    let q = set (set (set (o ∷ o ∷ o ∷ []) i (s ⊗ half)) j ((at m j i ⊕ at m i j) ⊗ r)) k ((at m k i ⊕ at m i k) ⊗ r) in
    record {
      v = record { x = get_or q 0 nan; y = get_or q 1 nan; z = get_or q 2 nan };
      w = (at m k j ⊖ at m j k) ⊗ r;
    }

-- `From<Transform> for Quaternion`
unfoldable pub Quaternion-from_matrix : Rows → Quaternion
Quaternion-from_matrix m =
    let trace = at m 0 0 ⊕ at m 1 1 ⊕ at m 2 2 in
    let i = largest m in
    cond (lt positive_zero trace) (from_trace m trace) (from_largest m i (nxt i) (nxt (nxt i)))

unfoldable pub Quaternion-from_transform : Transform → Quaternion
Quaternion-from_transform t = Quaternion-from_matrix (Matrix4x4-to_rows t.m)
