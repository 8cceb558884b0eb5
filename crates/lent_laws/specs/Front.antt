-- Lent places of which the first are written. Definitions only.
use Rattle.std.specs.Prelude.{List, [], ◌∷◌}

-- The items in the first places, in order; the places behind them are as they came. An item for which there is no place is left out.
unfoldable pub in_front : {A : Type 0} → List A → List A → List A
in_front [] old = old
in_front (x ∷ items) [] = []
in_front (x ∷ items) (place ∷ old) = x ∷ in_front items old
