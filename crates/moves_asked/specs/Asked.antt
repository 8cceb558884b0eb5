-- The moves that a query is asked of: `Moves-asked`. Rests on nothing. Definitions only.
use Rattle.std.specs.Prelude.{ℕ, cond, List, [], ltb, length}

-- one fewer than a chain's poses, of which document 02 has 2 to 32
abbrev pub max_moves : ℕ
max_moves = 31

-- More than a chain has are no chain: they count as none, and asking none is refused with 12.
unfoldable pub Moves-asked : {A : Type 0} → List A → List A
Moves-asked moves = cond (ltb max_moves (length moves)) [] moves
