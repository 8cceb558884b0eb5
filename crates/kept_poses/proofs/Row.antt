-- A row of four floats is its four entries: `row-entries`.
use mathlib.Core.Path.{◌≡◌, refl}
use mathlib.Core.List.{[], ◌∷◌}
use native.Mathlib.Omega.{arith}
use lib.ListN.{length}
use Rattle.motion_rows.specs.matrix4x4.Rows.{Row, col}

pub row-entries : (r : Row) → length r ≡ 4 → col r 0 ∷ col r 1 ∷ col r 2 ∷ col r 3 ∷ [] ≡ r
row-entries [] h = absurd (omega (arith, h))
row-entries (a ∷ []) h = absurd (omega (arith, h))
row-entries (a ∷ b ∷ []) h = absurd (omega (arith, h))
row-entries (a ∷ b ∷ c ∷ []) h = absurd (omega (arith, h))
row-entries (a ∷ b ∷ c ∷ d ∷ []) h = refl
row-entries (a ∷ b ∷ c ∷ d ∷ e ∷ r) h = absurd (omega (arith, h))
