-- Cases of the definitions, by computing: a turn is rigid, a scale is 17, a mirror image is 18, and one that also scales 17.
-- A dot product of exactly the float nearest 0.001 passes, the next float is 17.
use mathlib.Core.Path.{◌≡◌, refl}
use mathlib.Core.List.{[], ◌∷◌}
use Prim.Native.Nat.{ℕ}
use lib.Ieee.{Float, binary32, of_bits, neg}
use Rattle.float32.specs.Operators.{positive_zero, one, two}
use Rattle.matrix4x4.specs.Rows.{Rows}
use Rattle.matrix4x4.specs.IsAffine.{bottom_row}
use Rattle.rigid_pose.specs.Rigid.{Matrix4x4-rigid_number}
use Rattle.rigid_pose.specs.means.Computing.{computing}

-- a b over c d in x and y, the identity in z
abbrev linear : Float → Float → Float → Float → Rows
linear a b c d =
    let o = positive_zero in
    (a ∷ b ∷ o ∷ one ∷ []) ∷ (c ∷ d ∷ o ∷ one ∷ []) ∷ (o ∷ o ∷ one ∷ one ∷ []) ∷ bottom_row ∷ []

quarter-turn : Matrix4x4-rigid_number (linear positive_zero (neg one) one positive_zero) ≡ 0
unfolding computing
quarter-turn = refl

scaled : Matrix4x4-rigid_number (linear two positive_zero positive_zero one) ≡ 17
unfolding computing
scaled = refl

mirrored : Matrix4x4-rigid_number (linear (neg one) positive_zero positive_zero one) ≡ 18
unfolding computing
mirrored = refl

mirrored-and-scaled : Matrix4x4-rigid_number (linear (neg two) positive_zero positive_zero one) ≡ 17
unfolding computing
mirrored-and-scaled = refl

-- the columns 1 0 0 and b 1 0 have the dot product b
shear-at-threshold : Matrix4x4-rigid_number (linear one (of_bits binary32 0x3a83126f) positive_zero one) ≡ 0
unfolding computing
shear-at-threshold = refl

shear-above-threshold : Matrix4x4-rigid_number (linear one (of_bits binary32 0x3a831270) positive_zero one) ≡ 17
unfolding computing
shear-above-threshold = refl

shear-below-minus-threshold : Matrix4x4-rigid_number (linear one (of_bits binary32 0xba831270) positive_zero one) ≡ 17
unfolding computing
shear-below-minus-threshold = refl
