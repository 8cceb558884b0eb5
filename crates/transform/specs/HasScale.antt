-- pbrt's `has_scale`: whether the image of a unit vector on some axis has a squared length that isn't near 1. Definitions only.
-- A NaN is neither below 0.999 nor above 1.001, so that it counts as near 1.
use Rattle.std.specs.Prelude.{Bool, ◌||◌, Float}
use Rattle.std.specs.Float.{binary32}
use Rattle.std.specs.Float.Ieee.{of_bits, lt}
use Rattle.bounds3.specs.float32.Operators.{one}
use Rattle.matrix4x4.specs.Rows.{Rows, positive_zero, Matrix4x4-to_rows}
use Rattle.vector3.specs.Vector.{Vector3f-dot}
use Rattle.transform.specs.declared.Transform.{Transform}
use Rattle.transform.specs.TransformVector.{moved_vector}

-- `not_one!`: below 0.999 or above 1.001
abbrev pub not_one : Float → Bool
not_one x = lt x (of_bits binary32 0x3f7fbe77) || lt (of_bits binary32 0x3f8020c5) x

-- `length_squared` of a vector's image
unfoldable pub image_squared : Rows → Float → Float → Float → Float
image_squared m x y z = let v = moved_vector m (record { x = x; y = y; z = z }) in Vector3f-dot v v

-- `has_scale` of a matrix: document 02, "Rigid booms", asks it of a pose
unfoldable pub Matrix4x4-has_scale : Rows → Bool
Matrix4x4-has_scale m = let o = positive_zero in not_one (image_squared m one o o) || not_one (image_squared m o one o) || not_one (image_squared m o o one)

-- `Transform::has_scale`, which looks at the matrix half alone
abbrev pub Transform-has_scale : Transform → Bool
Transform-has_scale t = Matrix4x4-has_scale (Matrix4x4-to_rows t.m)
