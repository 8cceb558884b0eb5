-- Values among floats: `values_at`, so many from a place on; `groups_from`, things of so many floats each, one after the other;
-- `between`, those from a place up to another. Rests on nothing.
use Rattle.std.specs.Prelude.{ℕ, zero, suc, ◌+◌, ◌-◌, ◌*◌, cond, List, [], ◌∷◌, leb, Float, length, take, drop, replicate}
use Rattle.std.specs.Float.{binary32}
use Rattle.std.specs.Float.Ieee.{of_bits}

-- the places filled with the floats from a place on, as they were where there are fewer
unfoldable pub values_left : List Float → ℕ → List Float → List Float
values_left values at old = cond (leb (at + length old) (length values)) (take (length old) (drop at values)) old

-- n floats from a place on, each +0 where there are fewer
unfoldable pub values_at : ℕ → List Float → ℕ → List Float
values_at n values at = values_left values at (replicate n (of_bits binary32 0))

-- n things of so many floats each, from the k-th on
unfoldable pub groups_from : ℕ → ℕ → ℕ → List Float → List (List Float)
groups_from size zero k values = []
groups_from size (suc n) k values = values_at size values (size * k) ∷ groups_from size n (suc k) values

-- the floats from a place up to another, none where the second is no place or stands before the first
unfoldable pub between : List Float → ℕ → ℕ → List Float
between values from to = cond (leb to (length values)) (take (to - from) (drop from values)) []
