-- Chains kept in slots: `Slots-moves`, the moves of a slot. Rests on nothing.
use Rattle.std.specs.Prelude.{ℕ, ◌-◌, cond, List, [], ltb, Float, take, get_or}

-- how many moves a slot has that was filled from so many poses, a move by itself counting as one: none where they are fewer than are asked for
unfoldable pub moves_of : ℕ → ℕ → ℕ
moves_of poses fewest = cond (ltb poses fewest) 0 (cond (ltb poses 2) poses (poses - 1))

-- the moves of a slot, of which there are four
unfoldable pub Slots-moves : List (List (List (List Float))) → List ℕ → ℕ → ℕ → List (List (List Float))
Slots-moves kept poses slot fewest = cond (ltb slot 4) (take (moves_of (get_or poses slot 0) fewest) (get_or kept slot [])) []
