-- The polar rounds of pbrt's `decompose`: the linear part of a matrix is averaged with the inverse of its transpose until a round changes it little,
-- or 100 times. A round refuses with its inverse's number, and with 5 where its own matrix holds a value that isn't finite. Definitions only.
use Rattle.std.specs.Prelude.{ℕ, cond, eqb, Float}
use Rattle.std.specs.Float.{binary32}
use Rattle.std.specs.Float.Ieee.{of_bits, le}
use Rattle.matrix4x4.specs.Rows.{Rows}
use Rattle.matrix4x4.specs.Transpose.{Matrix4x4-transpose}
use Rattle.matrix4x4.specs.IsFinite.{Matrix4x4-is_finite}
use Rattle.matrix_inverse.specs.control_flow.Loop.{loop}
use Rattle.polar_round.specs.PolarRound.{linear_part, mean, distance}
use Rattle.matrix_inverse.specs.Inverse.{Matrix4x4-inverse}

-- 0.0001
abbrev pub settled_norm : Float
settled_norm = of_bits binary32 0x38d1b717

-- Where the rounds stand: at a refusal; at a matrix that a round may still change; or at the matrix of a round that changed it by a norm of 0.0001 or less.
pub data Polar : Type 0 where
  refused : ℕ → Polar
  unsettled : Rows → Polar
  settled : Rows → Polar

-- document 01, Refusals: "Each inverse, product and polar round's matrix is judged as its last entry is written."
unfoldable pub judged_round : Rows → Rows → Polar
judged_round r rnext = cond (Matrix4x4-is_finite rnext) (cond (le (distance r rnext) settled_norm) (settled rnext) (unsettled rnext)) (refused 5)

-- the body of pbrt's loop
unfoldable pub polar_round : ℕ → Polar → Polar
polar_round k (refused n) = refused n
polar_round k (settled r) = settled r
polar_round k (unsettled r) =
    let rit = Matrix4x4-inverse (Matrix4x4-transpose r) in
    cond (eqb rit.refusal 0) (judged_round r (mean r rit.m)) (refused rit.refusal)

-- document 01, Move: "The polar rounds stop at 100 rounds or a norm of 0.0001 or less."
unfoldable pub polar : Rows → Polar
polar m = loop polar_round 100 (unsettled (linear_part m))
