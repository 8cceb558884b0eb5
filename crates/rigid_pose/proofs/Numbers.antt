-- The numbers that a rigid build can give for a matrix are 0, 17 and 18 (`rigid-numbers`).
use mathlib.Core.Path.{◌≡◌, refl}
use mathlib.Core.Bool.{Bool, true, false, ◌||◌, cond}
use mathlib.Core.Logic.{◌⊎◌, inl, inr}
use mathlib.Core.List.{[], ◌∷◌}
use Prim.Native.Nat.{ℕ}
use lib.Ieee.{lt}
use Rattle.matrix4x4.specs.Rows.{Rows, positive_zero}
use Rattle.transform.specs.Answer.{OneOf}
use Rattle.transform.specs.HasScale.{Matrix4x4-has_scale}
use Rattle.rigid_pose.specs.Rigid.{Matrix4x4-has_shear, Matrix4x4-determinant, Matrix4x4-rigid_number}

-- by the two tests
judged : (P : ℕ → Type 0) → P 0 → P 17 → P 18 → (distorts proper : Bool) → P (cond distorts 17 (cond proper 0 18))
judged P none distorted mirrored true proper = distorted
judged P none distorted mirrored false true = none
judged P none distorted mirrored false false = mirrored

-- What holds of 0, 17 and 18 holds of the number.
pub rigid-each : (P : ℕ → Type 0) (m : Rows) → P 0 → P 17 → P 18 → P (Matrix4x4-rigid_number m)
unfolding Matrix4x4-rigid_number
rigid-each P m none distorted mirrored =
    judged P none distorted mirrored (Matrix4x4-has_scale m || Matrix4x4-has_shear m) (lt positive_zero (Matrix4x4-determinant m))

pub rigid-numbers : (m : Rows) → OneOf (Matrix4x4-rigid_number m) (0 ∷ 17 ∷ 18 ∷ [])
rigid-numbers m = rigid-each (λ n. OneOf n (0 ∷ 17 ∷ 18 ∷ [])) m (inl refl) (inr (inl refl)) (inr (inr (inl refl)))
