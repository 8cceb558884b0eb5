-- The blocks of kept moves with new ones beside a place among them: `changed_moves`; what is left in lent blocks: `changed_left`. Definitions only.
use Rattle.std.specs.Prelude.{ℕ, ◌-◌, ◌&&◌, ◌||◌, cond, List, [], ◌∷◌, eqb, ltb, length, get_or, Float}
use Rattle.std.proofs.lemmas.List.Edits.{sets}

-- the rows of one move
abbrev pub Block : Type 0
Block = List (List Float)

-- the new moves beside a place of n moves: the first two, but the first alone beside the first pose and beside the last
abbrev pub beside_blocks : ℕ → ℕ → List Block → List Block
beside_blocks n place new = cond (ltb 0 place && ltb place n) (get_or new 0 [] ∷ get_or new 1 [] ∷ []) (get_or new 0 [] ∷ [])

-- document 02, "Trying a pose first": the moves of "a copy" in which the pose at the place is changed, the new ones where those beside it stood
abbrev pub changed_moves : List Block → ℕ → List Block → List Block
changed_moves moves place new = sets moves (place - 1) (beside_blocks (length moves) place new)

-- The changed moves at the front places, and behind them what stood there; all that stood there where the moves are none or more than 31, or have no such place.
unfoldable pub changed_left : List Block → ℕ → List Block → List Block → List Block
changed_left moves place new old =
    let n = length moves in
    cond (eqb n 0 || ltb 31 n || ltb n place) old (sets old 0 (changed_moves moves place new))
