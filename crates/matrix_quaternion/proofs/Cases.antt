-- Cases of the definition, by computing: the matrix of a third of a turn about (1, 1, 1) gives the quaternion back, that of a half turn about y does so
-- through the largest entry of the diagonal, the identity through the trace.
use mathlib.Core.Path.{◌≡◌, refl}
use mathlib.Core.Bool.{true, false}
use mathlib.Core.List.{[], ◌∷◌}
use lib.Ieee.{Float, binary32, round}
use Rattle.transform.specs.matrix4x4.Rows.{Row, Rows}
use Rattle.quaternion.specs.declared.Quaternion.{Quaternion}
use Rattle.matrix_quaternion.specs.FromMatrix.{Quaternion-from_matrix}
use Rattle.matrix_quaternion.specs.means.Computing.{computing}

abbrev 0f : Float
0f = round binary32 false 0 1

abbrev ½f : Float
½f = round binary32 false 1 2

abbrev 1f : Float
1f = round binary32 false 1 1

abbrev -1f : Float
-1f = round binary32 true 1 1

abbrev quaternion : Float → Float → Float → Float → Quaternion
quaternion x y z w = record { v = record { x = x; y = y; z = z }; w = w }

abbrev row : Float → Float → Float → Row
row a b c = a ∷ b ∷ c ∷ 0f ∷ []

abbrev linear : Row → Row → Row → Rows
linear a b c = a ∷ b ∷ c ∷ (0f ∷ 0f ∷ 0f ∷ 1f ∷ []) ∷ []

abbrev x-to-y : Rows
x-to-y = linear (row 0f 0f 1f) (row 1f 0f 0f) (row 0f 1f 0f)

third-turn-back : Quaternion-from_matrix x-to-y ≡ quaternion ½f ½f ½f ½f
unfolding computing
third-turn-back = refl

half-turn-back : Quaternion-from_matrix (linear (row -1f 0f 0f) (row 0f 1f 0f) (row 0f 0f -1f)) ≡ quaternion 0f 1f 0f 0f
unfolding computing
half-turn-back = refl

identity-back : Quaternion-from_matrix (linear (row 1f 0f 0f) (row 0f 1f 0f) (row 0f 0f 1f)) ≡ quaternion 0f 0f 0f 1f
unfolding computing
identity-back = refl
