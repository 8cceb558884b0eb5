-- Worked inverses, computed from the definition: a change of axes with scale and translation, a zero pivot, an overflow, a zero among NaNs.
use mathlib.Core.Path.{◌≡◌, refl}
use mathlib.Core.List.{[], ◌∷◌}
use Prim.Native.Nat.{ℕ}
use lib.Ieee.{binary32, of_bits}
use Rattle.matrix4x4.specs.Rows.{Row, tabulate}
use Rattle.matrix_inverse.specs.Inverse.{refused, Matrix4x4-inverse}
use Rattle.matrix_inverse.specs.means.Computing.{computing}

-- a row of floats by their bits
abbrev bits : ℕ → ℕ → ℕ → ℕ → Row
bits a b c d = of_bits binary32 a ∷ of_bits binary32 b ∷ of_bits binary32 c ∷ of_bits binary32 d ∷ []

-- (x, y, z) to (2 y + 1, 4 z, x / 2)
cyclic : Matrix4x4-inverse (bits 0 0x40000000 0 0x3f800000 ∷ bits 0 0 0x40800000 0 ∷ bits 0x3f000000 0 0 0 ∷ bits 0 0 0 0x3f800000 ∷ [])
    ≡ record {
      m = bits 0 0 0x40000000 0 ∷ bits 0x3f000000 0 0 0xbf000000 ∷ bits 0 0x3e800000 0 0 ∷ bits 0 0 0 0x3f800000 ∷ [];
      refusal = 0;
    }
unfolding computing
cyclic = refl

-- a matrix of ones: after the first round every candidate is a zero
ones-refused : Matrix4x4-inverse (tabulate (λ i. bits 0x3f800000 0x3f800000 0x3f800000 0x3f800000)) ≡ refused 4
unfolding computing
ones-refused = refl

-- the reciprocal of 2^-149 is beyond the format
overflow-refused : Matrix4x4-inverse (bits 1 0 0 0 ∷ bits 0 0x3f800000 0 0 ∷ bits 0 0 0x3f800000 0 ∷ bits 0 0 0 0x3f800000 ∷ []) ≡ refused 5
unfolding computing
overflow-refused = refl

abbrev nans : Row
nans = bits 0x7fc00000 0x7fc00000 0x7fc00000 0x7fc00000

-- -0 is the only candidate, and it is refused although NaNs stand in the matrix
zero-among-nans-refused : Matrix4x4-inverse (bits 0x80000000 0x7fc00000 0x7fc00000 0x7fc00000 ∷ nans ∷ nans ∷ nans ∷ []) ≡ refused 4
unfolding computing
zero-among-nans-refused = refl
