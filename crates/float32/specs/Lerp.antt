-- Linear interpolation between two floats, each operation rounded. Definitions only.
use Rattle.std.specs.Prelude.{Float}
use Rattle.float32.specs.Operators.{◌⊕◌, ◌⊖◌, ◌⊗◌, one}

-- document 01, Numbers: "lerp(t, a, b) = (1−t)·a + t·b"
unfoldable pub lerp : Float → Float → Float → Float
lerp t a b = (one ⊖ t) ⊗ a ⊕ t ⊗ b
