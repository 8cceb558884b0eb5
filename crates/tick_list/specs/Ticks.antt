-- The ticks of a query about two chains. Definitions only. Quotations are of document 02, "Two booms over one bay".
use Rattle.std.specs.Prelude.{ℕ, Bool, true, ◌&&◌, ◌||◌, cond, List, [], ◌∷◌, ltb, length, Float}
use Rattle.std.specs.Float.Ieee.{lt}

-- "2 to 64 tick times"
abbrev pub min_ticks : ℕ
min_ticks = 2

abbrev pub max_ticks : ℕ
max_ticks = 64

-- "that rise strictly": a NaN is below nothing, so that two or more ticks with one among them don't
unfoldable pub Ticks-rise : List Float → Bool
Ticks-rise [] = true
Ticks-rise (t ∷ []) = true
Ticks-rise (t ∷ u ∷ ticks) = lt t u && Ticks-rise (u ∷ ticks)

-- "Ticks that are NaN, too few, too many or not rising are 21"
unfoldable pub Ticks-refusal : List Float → ℕ
Ticks-refusal ticks = cond (ltb (length ticks) min_ticks || ltb max_ticks (length ticks)) 21 (cond (Ticks-rise ticks) 0 21)
