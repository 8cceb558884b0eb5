-- Rows of four floats: a row is its four entries (`row-entries`), and `==` of two rows compares these (`row-eq`).
use mathlib.Core.Path.{◌≡◌, refl, sym, ◌∙◌}
use mathlib.Core.Bool.{Bool, true, false, ◌&&◌}
use mathlib.Core.List.{[], ◌∷◌}
use native.Mathlib.Omega.{arith}
use lib.Ieee.{eq}
use lib.ListN.{length}
use lib.Pointwise.{pointwise}
use Rattle.matrix4x4.specs.Rows.{Row, col, all}

pub row-entries : (r : Row) → length r ≡ 4 → col r 0 ∷ col r 1 ∷ col r 2 ∷ col r 3 ∷ [] ≡ r
row-entries [] h = absurd (omega (arith, h))
row-entries (a ∷ []) h = absurd (omega (arith, h))
row-entries (a ∷ b ∷ []) h = absurd (omega (arith, h))
row-entries (a ∷ b ∷ c ∷ []) h = absurd (omega (arith, h))
row-entries (a ∷ b ∷ c ∷ d ∷ []) h = refl
row-entries (a ∷ b ∷ c ∷ d ∷ e ∷ r) h = absurd (omega (arith, h))

from-the-left : (a b c d : Bool) → (a && (b && (c && (d && true)))) ≡ (a && b && c && d)
from-the-left true true true true = refl
from-the-left true true true false = refl
from-the-left true true false d = refl
from-the-left true false c d = refl
from-the-left false b c d = refl

pub row-eq : (r s : Row) → length r ≡ 4 → length s ≡ 4 → pointwise eq r s ≡ all (λ j. eq (col r j) (col s j))
row-eq r s p q =
    (λ i. pointwise eq (sym (row-entries r p) i) (sym (row-entries s q) i))
    ∙ from-the-left (eq (col r 0) (col s 0)) (eq (col r 1) (col s 1)) (eq (col r 2) (col s 2)) (eq (col r 3) (col s 3))
