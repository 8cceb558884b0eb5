-- A case of the definition, by computing: a third of a turn about (1, 1, 1) takes x to y, y to z and z to x.
use mathlib.Core.Path.{◌≡◌, refl}
use mathlib.Core.Bool.{false}
use mathlib.Core.List.{[], ◌∷◌}
use lib.Ieee.{Float, binary32, round}
use Rattle.matrix4x4.specs.Rows.{Rows, Matrix4x4-from_rows}
use Rattle.quaternion.specs.declared.Quaternion.{Quaternion}
use Rattle.rotation.specs.FromQuaternion.{Transform-from_quaternion}
use Rattle.rotation.specs.means.Computing.{computing}

abbrev 0f : Float
0f = round binary32 false 0 1

abbrev ½f : Float
½f = round binary32 false 1 2

abbrev 1f : Float
1f = round binary32 false 1 1

abbrev half-each : Quaternion
half-each = record { v = record { x = ½f; y = ½f; z = ½f }; w = ½f }

abbrev x-to-y : Rows
x-to-y = (0f ∷ 0f ∷ 1f ∷ 0f ∷ []) ∷ (1f ∷ 0f ∷ 0f ∷ 0f ∷ []) ∷ (0f ∷ 1f ∷ 0f ∷ 0f ∷ []) ∷ (0f ∷ 0f ∷ 0f ∷ 1f ∷ []) ∷ []

third-turn : (Transform-from_quaternion half-each).m ≡ Matrix4x4-from_rows x-to-y
unfolding computing
third-turn = refl
