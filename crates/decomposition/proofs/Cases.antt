-- Worked decompositions, computed from the definition: a quarter turn after a scale, of a move of either kind, and a matrix of zeros, which is refused.
use mathlib.Core.Path.{◌≡◌, refl}
use mathlib.Core.Bool.{true, false}
use mathlib.Core.List.{[], ◌∷◌}
use Prim.Native.Nat.{ℕ}
use lib.Ieee.{Float, binary32, of_bits}
use Rattle.matrix4x4.specs.Rows.{Row, Rows, tabulate, Matrix4x4-from_rows}
use Rattle.decomposition.specs.Decompose.{DecompositionAnswer}
use Rattle.decomposition.specs.Decompose.{Decomposition-refused, Matrix4x4-decompose}
use Rattle.decomposition.specs.means.Computing.{computing}

-- a float and a row by their bits
abbrev float : ℕ → Float
float n = of_bits binary32 n

abbrev bits : ℕ → ℕ → ℕ → ℕ → Row
bits a b c d = float a ∷ float b ∷ float c ∷ float d ∷ []

-- a matrix of zeros: the inverse of the first round has no pivot
zeros-refused : Matrix4x4-decompose false (tabulate (λ i. bits 0 0 0 0)) ≡ Decomposition-refused 4
unfolding computing
zeros-refused = refl

-- (x, y, z) to (1 - 2 y, 2 + x / 2, 3 + z): a quarter turn about z after a scale along x and y
abbrev turned : Rows
turned = bits 0 0xc0000000 0 0x3f800000 ∷ bits 0x3f000000 0 0 0x40000000 ∷ bits 0 0 0x3f800000 0x40400000 ∷ bits 0 0 0 0x3f800000 ∷ []

abbrev turned_parts : Rows → DecompositionAnswer
turned_parts s =
    record {
      t = record { x = float 0x3f800000; y = float 0x40000000; z = float 0x40400000 };
      r = record { v = record { x = float 0; y = float 0; z = float 0x3f3504f3 }; w = float 0x3f3504f3 };
      s = Matrix4x4-from_rows s;
      refusal = 0;
    }

quarter-turn : Matrix4x4-decompose false turned
    ≡ turned_parts
    (bits 0x3f000000 0 0 0x40000000
    ∷ bits 0x80000000 0x40000000 0x80000000 0xbf800000
    ∷ bits 0 0 0x3f800000 0x40400000
    ∷ bits 0 0 0 0x3f800000
    ∷ [])
unfolding computing
quarter-turn = refl

rigid-quarter-turn : Matrix4x4-decompose true turned
    ≡ turned_parts (bits 0x3f800000 0 0 0 ∷ bits 0 0x3f800000 0 0 ∷ bits 0 0 0x3f800000 0 ∷ bits 0 0 0 0x3f800000 ∷ [])
unfolding computing
rigid-quarter-turn = refl
