-- The order of floats: `x ≼ y`, which is IEEE 754's comparison x <= y, `Number`, no NaN, and `Between`, in either direction.
-- The model is lib.Ieee's `le`: it is false where either side is a NaN, and the two zeros are equal.
use Rattle.std.specs.Prelude.{not, ◌⊎◌, T, Float}
use Rattle.std.specs.Float.Ieee.{le, is_nan}

-- A record and no abbreviation, so that both floats are found from a proof of it.
infix 50 ◌≼◌
pub record ◌≼◌ (x y : Float) : Type 0 where
  pub holds : T (le x y)

-- x is no NaN.
abbrev pub Number : Float → Type 0
Number x = T (not (is_nan x))

-- v lies from u to w, or from w to u.
abbrev pub Between : Float → Float → Float → Type 0
Between u v w = ((u ≼ v) × (v ≼ w)) ⊎ ((w ≼ v) × (v ≼ u))
